use Rattle.std.proofs.Common.{rules, ◌≡◌, ◌++◌, ◌<◌, ◌^◌, None}
use Rattle.tt_bytes.specs.Behind.{IsBehind}
use Rattle.tt_bytes.specs.Format.{number_bytes, part_bytes, PartFits}
use Rattle.tt_bytes.proofs.Behind.{Misses, three_behind, first_missing, second_missing}
use Rattle.tt_bytes.proofs.compare.behind_part.Goals as goal

pub returns-in_err-rest : goal.returns-in_err-rest
unfolding part_bytes
returns-in_err-rest c =
    let missing : Misses (c.args.part.now.anchor.file_id.0 < 2 ^ 32) (number_bytes c.args.part.now.anchor.file_id.0) c.args.from.now = search rules in
    let none : IsBehind (PartFits c.args.part.now) (part_bytes c.args.part.now) c.args.from.now None =
    first_missing _ _ _ _ _ _ (λ fits. fits.file) missing in
    search (rules, none)

pub returns-in_err-rest-2 : goal.returns-in_err-rest-2
unfolding part_bytes
returns-in_err-rest-2 c =
    let file : c.args.from.now ≡ number_bytes c.args.part.now.anchor.file_id.0 ++ c.in_ok-rest.rest.now = search rules in
    let missing : Misses (c.args.part.now.anchor.ast_id.0 < 2 ^ 32) (number_bytes c.args.part.now.anchor.ast_id.0) c.in_ok-rest.rest.now = search rules in
    let none : IsBehind (PartFits c.args.part.now) (part_bytes c.args.part.now) c.args.from.now None =
    second_missing _ _ _ _ _ _ _ (λ fits. fits.ast) file missing in
    search (rules, none)

pub returns : goal.returns
unfolding part_bytes
returns c =
    let file : (c.args.part.now.anchor.file_id.0 < 2 ^ 32) × (c.args.from.now ≡ number_bytes c.args.part.now.anchor.file_id.0 ++ c.in_ok-rest.rest.now) = search rules in
    let ast : (c.args.part.now.anchor.ast_id.0 < 2 ^ 32) × (c.in_ok-rest.rest.now ≡ number_bytes c.args.part.now.anchor.ast_id.0 ++ c.in_ok-rest-2.rest.now) = search rules in
    three_behind _ _ _ _ _ _ _ _ _ (λ fits. fits.ctx) (λ ctx. record { file = file.0; ast = ast.0; ctx = ctx }) file.1 ast.1 c.behind_number-3.ensures
