-- An answer for each verb: what follows the verb is read as the command's values.
use Rattle.std.proofs.Common.{◌≡◌}
use Rattle.std.specs.Option.{option_map}
use Rattle.app_language.specs.declared.command.verb.Verb.TheVariants as verb
use Rattle.app_language.proofs.Commands.{command_read, make, mapped}
use Rattle.app_language.proofs.command.Command.read_behind.Goals as goal

pub returns-in_ok-read-in-Item-clause-reads : goal.returns-in_ok-read-in-Item-clause-reads
returns-in_ok-read-in-Item-clause-reads c =
    let made : c.map.result ≡ option_map (make verb.Item) c.in_ok-read-in-Item.field-0 = mapped (make verb.Item) _ _ c.map.ensures.cases (λ x y learnt. learnt) in
    rw c.in-Item.is (command_read verb.Item _ _ _ c.requires.tail c.in_ok-read-in-Item.ensures.reads made)

pub returns-in_ok-read-in-List-clause-reads : goal.returns-in_ok-read-in-List-clause-reads
returns-in_ok-read-in-List-clause-reads c =
    let made : c.map-in-List.result ≡ option_map (make verb.List) c.in_ok-read-in-List.field-0 = mapped (make verb.List) _ _ c.map-in-List.ensures.cases (λ x y learnt. search) in
    rw c.in-List.is (command_read verb.List _ _ _ c.requires.tail c.in_ok-read-in-List.ensures.reads made)

pub returns-in_ok-read-in-View-clause-reads : goal.returns-in_ok-read-in-View-clause-reads
returns-in_ok-read-in-View-clause-reads c =
    let made : c.map-in-View.result ≡ option_map (make (verb.View c.in-View.view)) c.in_ok-read-in-View.field-0 = mapped (make (verb.View c.in-View.view)) _ _ c.map-in-View.ensures.cases (λ x y learnt. search) in
    rw c.in-View.is (command_read (verb.View c.in-View.view) _ _ _ c.requires.tail c.in_ok-read-in-View.ensures.reads made)

pub returns-in_ok-read-in-Equal-clause-reads : goal.returns-in_ok-read-in-Equal-clause-reads
returns-in_ok-read-in-Equal-clause-reads c =
    let made : c.map-in-Equal.result ≡ option_map (make verb.Equal) c.in_ok-read-in-Equal.field-0 = mapped (make verb.Equal) _ _ c.map-in-Equal.ensures.cases (λ x y learnt. search) in
    rw c.in-Equal.is (command_read verb.Equal _ _ _ c.requires.tail c.in_ok-read-in-Equal.ensures.reads made)

pub returns-in_ok-read-in-Clear-clause-reads : goal.returns-in_ok-read-in-Clear-clause-reads
returns-in_ok-read-in-Clear-clause-reads c =
    let made : c.map-in-Clear.result ≡ option_map (make verb.Clear) c.in_ok-read-in-Clear.field-0 = mapped (make verb.Clear) _ _ c.map-in-Clear.ensures.cases (λ x y learnt. search) in
    rw c.in-Clear.is (command_read verb.Clear _ _ _ c.requires.tail c.in_ok-read-in-Clear.ensures.reads made)

pub returns-in_ok-read-in-New-clause-reads : goal.returns-in_ok-read-in-New-clause-reads
returns-in_ok-read-in-New-clause-reads c =
    let made : c.map-in-New.result ≡ option_map (make verb.New) c.in_ok-read-in-New.field-0 = mapped (make verb.New) _ _ c.map-in-New.ensures.cases (λ x y learnt. search) in
    rw c.in-New.is (command_read verb.New _ _ _ c.requires.tail c.in_ok-read-in-New.ensures.reads made)

pub returns-in_ok-read-in-Open-clause-reads : goal.returns-in_ok-read-in-Open-clause-reads
returns-in_ok-read-in-Open-clause-reads c =
    let made : c.map-in-Open.result ≡ option_map (make verb.Open) c.in_ok-read-in-Open.field-0 = mapped (make verb.Open) _ _ c.map-in-Open.ensures.cases (λ x y learnt. search) in
    rw c.in-Open.is (command_read verb.Open _ _ _ c.requires.tail c.in_ok-read-in-Open.ensures.reads made)

pub returns-in_ok-read-in-Push-clause-reads : goal.returns-in_ok-read-in-Push-clause-reads
returns-in_ok-read-in-Push-clause-reads c =
    let made : c.map-in-Push.result ≡ option_map (make verb.Push) c.in_ok-read-in-Push.field-0 = mapped (make verb.Push) _ _ c.map-in-Push.ensures.cases (λ x y learnt. learnt) in
    rw c.in-Push.is (command_read verb.Push _ _ _ c.requires.tail c.in_ok-read-in-Push.ensures.reads made)

pub returns-in_ok-read-in-Close-clause-reads : goal.returns-in_ok-read-in-Close-clause-reads
returns-in_ok-read-in-Close-clause-reads c =
    let made : c.map-in-Close.result ≡ option_map (make verb.Close) c.in_ok-read-in-Close.field-0 = mapped (make verb.Close) _ _ c.map-in-Close.ensures.cases (λ x y learnt. search) in
    rw c.in-Close.is (command_read verb.Close _ _ _ c.requires.tail c.in_ok-read-in-Close.ensures.reads made)

pub returns-in_ok-read-in-Append-clause-reads : goal.returns-in_ok-read-in-Append-clause-reads
returns-in_ok-read-in-Append-clause-reads c =
    let made : c.map-in-Append.result ≡ option_map (make verb.Append) c.in_ok-read-in-Append.field-0 = mapped (make verb.Append) _ _ c.map-in-Append.ensures.cases (λ x y learnt. search) in
    rw c.in-Append.is (command_read verb.Append _ _ _ c.requires.tail c.in_ok-read-in-Append.ensures.reads made)

pub returns-in_ok-read-in-Alone-clause-reads : goal.returns-in_ok-read-in-Alone-clause-reads
returns-in_ok-read-in-Alone-clause-reads c =
    let made : c.map-in-Alone.result ≡ option_map (make verb.Alone) c.in_ok-read-in-Alone.field-0 = mapped (make verb.Alone) _ _ c.map-in-Alone.ensures.cases (λ x y learnt. search) in
    rw c.in-Alone.is (command_read verb.Alone _ _ _ c.requires.tail c.in_ok-read-in-Alone.ensures.reads made)

pub returns-in_ok-read-in-Unwrap-clause-reads : goal.returns-in_ok-read-in-Unwrap-clause-reads
returns-in_ok-read-in-Unwrap-clause-reads c =
    let made : c.map-in-Unwrap.result ≡ option_map (make verb.Unwrap) c.in_ok-read-in-Unwrap.field-0 = mapped (make verb.Unwrap) _ _ c.map-in-Unwrap.ensures.cases (λ x y learnt. search) in
    rw c.in-Unwrap.is (command_read verb.Unwrap _ _ _ c.requires.tail c.in_ok-read-in-Unwrap.ensures.reads made)

pub returns-in_ok-read-in-Point-clause-reads : goal.returns-in_ok-read-in-Point-clause-reads
returns-in_ok-read-in-Point-clause-reads c =
    let made : c.map-in-Point.result ≡ option_map (make verb.Point) c.in_ok-read-in-Point.field-0 = mapped (make verb.Point) _ _ c.map-in-Point.ensures.cases (λ x y learnt. search) in
    rw c.in-Point.is (command_read verb.Point _ _ _ c.requires.tail c.in_ok-read-in-Point.ensures.reads made)

pub returns-in_ok-read-in-Restore-clause-reads : goal.returns-in_ok-read-in-Restore-clause-reads
returns-in_ok-read-in-Restore-clause-reads c =
    let made : c.map-in-Restore.result ≡ option_map (make verb.Restore) c.in_ok-read-in-Restore.field-0 = mapped (make verb.Restore) _ _ c.map-in-Restore.ensures.cases (λ x y learnt. search) in
    rw c.in-Restore.is (command_read verb.Restore _ _ _ c.requires.tail c.in_ok-read-in-Restore.ensures.reads made)

pub returns-in_ok-read-in-Expected-clause-reads : goal.returns-in_ok-read-in-Expected-clause-reads
returns-in_ok-read-in-Expected-clause-reads c =
    let made : c.map-in-Expected.result ≡ option_map (make verb.Expected) c.in_ok-read-in-Expected.field-0 = mapped (make verb.Expected) _ _ c.map-in-Expected.ensures.cases (λ x y learnt. search) in
    rw c.in-Expected.is (command_read verb.Expected _ _ _ c.requires.tail c.in_ok-read-in-Expected.ensures.reads made)

pub returns-in_ok-read-in-Counts-clause-reads : goal.returns-in_ok-read-in-Counts-clause-reads
returns-in_ok-read-in-Counts-clause-reads c =
    let made : c.map-in-Counts.result ≡ option_map (make verb.Counts) c.in_ok-read-in-Counts.field-0 = mapped (make verb.Counts) _ _ c.map-in-Counts.ensures.cases (λ x y learnt. search) in
    rw c.in-Counts.is (command_read verb.Counts _ _ _ c.requires.tail c.in_ok-read-in-Counts.ensures.reads made)

pub returns-in_ok-read-in-Build-clause-reads : goal.returns-in_ok-read-in-Build-clause-reads
returns-in_ok-read-in-Build-clause-reads c =
    let made : c.map-in-Build.result ≡ option_map (make verb.Build) c.in_ok-read-in-Build.field-0 = mapped (make verb.Build) _ _ c.map-in-Build.ensures.cases (λ x y learnt. search) in
    rw c.in-Build.is (command_read verb.Build _ _ _ c.requires.tail c.in_ok-read-in-Build.ensures.reads made)

pub returns-in_ok-read-in-Skip-clause-reads : goal.returns-in_ok-read-in-Skip-clause-reads
returns-in_ok-read-in-Skip-clause-reads c =
    let made : c.map-in-Skip.result ≡ option_map (make verb.Skip) c.in_ok-read-in-Skip.field-0 = mapped (make verb.Skip) _ _ c.map-in-Skip.ensures.cases (λ x y learnt. search) in
    rw c.in-Skip.is (command_read verb.Skip _ _ _ c.requires.tail c.in_ok-read-in-Skip.ensures.reads made)

pub returns-in_ok-read-in-Copy-clause-reads : goal.returns-in_ok-read-in-Copy-clause-reads
returns-in_ok-read-in-Copy-clause-reads c =
    let made : c.map-in-Copy.result ≡ option_map (make verb.Copy) c.in_ok-read-in-Copy.field-0 = mapped (make verb.Copy) _ _ c.map-in-Copy.ensures.cases (λ x y learnt. search) in
    rw c.in-Copy.is (command_read verb.Copy _ _ _ c.requires.tail c.in_ok-read-in-Copy.ensures.reads made)

pub returns-in_ok-read-in-Split-clause-reads : goal.returns-in_ok-read-in-Split-clause-reads
returns-in_ok-read-in-Split-clause-reads c =
    let made : c.map-in-Split.result ≡ option_map (make verb.Split) c.in_ok-read-in-Split.field-0 = mapped (make verb.Split) _ _ c.map-in-Split.ensures.cases (λ x y learnt. search) in
    rw c.in-Split.is (command_read verb.Split _ _ _ c.requires.tail c.in_ok-read-in-Split.ensures.reads made)

pub returns-in_ok-read-in-Kind-clause-reads : goal.returns-in_ok-read-in-Kind-clause-reads
returns-in_ok-read-in-Kind-clause-reads c =
    let made : c.map-in-Kind.result ≡ option_map (make verb.Kind) c.in_ok-read-in-Kind.field-0 = mapped (make verb.Kind) _ _ c.map-in-Kind.ensures.cases (λ x y learnt. search) in
    rw c.in-Kind.is (command_read verb.Kind _ _ _ c.requires.tail c.in_ok-read-in-Kind.ensures.reads made)

pub returns-in_ok-read-in-Spans-clause-reads : goal.returns-in_ok-read-in-Spans-clause-reads
returns-in_ok-read-in-Spans-clause-reads c =
    let made : c.map-in-Spans.result ≡ option_map (make verb.Spans) c.in_ok-read-in-Spans.field-0 = mapped (make verb.Spans) _ _ c.map-in-Spans.ensures.cases (λ x y learnt. search) in
    rw c.in-Spans.is (command_read verb.Spans _ _ _ c.requires.tail c.in_ok-read-in-Spans.ensures.reads made)

pub returns-in_ok-read-in-Set-clause-reads : goal.returns-in_ok-read-in-Set-clause-reads
returns-in_ok-read-in-Set-clause-reads c =
    let made : c.map-in-Set.result ≡ option_map (make verb.Set) c.in_ok-read-in-Set.field-0 = mapped (make verb.Set) _ _ c.map-in-Set.ensures.cases (λ x y learnt. search) in
    rw c.in-Set.is (command_read verb.Set _ _ _ c.requires.tail c.in_ok-read-in-Set.ensures.reads made)

pub returns-in_ok-read-in-Ids-clause-reads : goal.returns-in_ok-read-in-Ids-clause-reads
returns-in_ok-read-in-Ids-clause-reads c =
    let made : c.map-in-Ids.result ≡ option_map (make verb.Ids) c.in_ok-read-in-Ids.field-0 = mapped (make verb.Ids) _ _ c.map-in-Ids.ensures.cases (λ x y learnt. search) in
    rw c.in-Ids.is (command_read verb.Ids _ _ _ c.requires.tail c.in_ok-read-in-Ids.ensures.reads made)

pub returns-in_ok-read-in-Rewrite-clause-reads : goal.returns-in_ok-read-in-Rewrite-clause-reads
returns-in_ok-read-in-Rewrite-clause-reads c =
    let made : c.map-in-Rewrite.result ≡ option_map (make verb.Rewrite) c.in_ok-read-in-Rewrite.field-0 = mapped (make verb.Rewrite) _ _ c.map-in-Rewrite.ensures.cases (λ x y learnt. search) in
    rw c.in-Rewrite.is (command_read verb.Rewrite _ _ _ c.requires.tail c.in_ok-read-in-Rewrite.ensures.reads made)

pub returns-in_ok-read-in-Expand-clause-reads : goal.returns-in_ok-read-in-Expand-clause-reads
returns-in_ok-read-in-Expand-clause-reads c =
    let made : c.map-in-Expand.result ≡ option_map (make verb.Expand) c.in_ok-read-in-Expand.field-0 = mapped (make verb.Expand) _ _ c.map-in-Expand.ensures.cases (λ x y learnt. search) in
    rw c.in-Expand.is (command_read verb.Expand _ _ _ c.requires.tail c.in_ok-read-in-Expand.ensures.reads made)

pub returns-in_ok-read-in-Save-clause-reads : goal.returns-in_ok-read-in-Save-clause-reads
returns-in_ok-read-in-Save-clause-reads c =
    let made : c.map-in-Save.result ≡ option_map (make verb.Save) c.in_ok-read-in-Save.field-0 = mapped (make verb.Save) _ _ c.map-in-Save.ensures.cases (λ x y learnt. search) in
    rw c.in-Save.is (command_read verb.Save _ _ _ c.requires.tail c.in_ok-read-in-Save.ensures.reads made)

pub returns-in_ok-read-in-Load-clause-reads : goal.returns-in_ok-read-in-Load-clause-reads
returns-in_ok-read-in-Load-clause-reads c =
    let made : c.map-in-Load.result ≡ option_map (make verb.Load) c.in_ok-read-in-Load.field-0 = mapped (make verb.Load) _ _ c.map-in-Load.ensures.cases (λ x y learnt. search) in
    rw c.in-Load.is (command_read verb.Load _ _ _ c.requires.tail c.in_ok-read-in-Load.ensures.reads made)

pub returns-in_ok-read-in-Read-clause-reads : goal.returns-in_ok-read-in-Read-clause-reads
returns-in_ok-read-in-Read-clause-reads c =
    let made : c.map-in-Read.result ≡ option_map (make verb.Read) c.in_ok-read-in-Read.field-0 = mapped (make verb.Read) _ _ c.map-in-Read.ensures.cases (λ x y learnt. search) in
    rw c.in-Read.is (command_read verb.Read _ _ _ c.requires.tail c.in_ok-read-in-Read.ensures.reads made)

pub returns-in_ok-read-in-Text-clause-reads : goal.returns-in_ok-read-in-Text-clause-reads
returns-in_ok-read-in-Text-clause-reads c =
    let made : c.map-in-Text.result ≡ option_map (make verb.Text) c.in_ok-read-in-Text.field-0 = mapped (make verb.Text) _ _ c.map-in-Text.ensures.cases (λ x y learnt. search) in
    rw c.in-Text.is (command_read verb.Text _ _ _ c.requires.tail c.in_ok-read-in-Text.ensures.reads made)

pub returns-in_ok-read-in-Arms-clause-reads : goal.returns-in_ok-read-in-Arms-clause-reads
returns-in_ok-read-in-Arms-clause-reads c =
    let made : c.map-in-Arms.result ≡ option_map (make verb.Arms) c.in_ok-read-in-Arms.field-0 = mapped (make verb.Arms) _ _ c.map-in-Arms.ensures.cases (λ x y learnt. search) in
    rw c.in-Arms.is (command_read verb.Arms _ _ _ c.requires.tail c.in_ok-read-in-Arms.ensures.reads made)
