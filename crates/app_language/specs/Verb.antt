-- The first word of a line.
use Rattle.std.specs.Prelude.{ℕ, List, codes}
use Rattle.app_language.specs.declared.command.verb.Verb.{Verb}
use Rattle.app_language.specs.declared.command.verb.Verb.TheVariants as verb
use Rattle.app_language.specs.declared.command.view.View.{View}
use Rattle.app_language.specs.declared.command.view.View.TheVariants as view

-- the word of a view
abbrev pub view_word : View → List ℕ
view_word view.Show = codes "show"
view_word view.Pretty = codes "pretty"
view_word view.Debug = codes "debug"
view_word view.Flat = codes "flat"
view_word view.Siblings = codes "siblings"
view_word view.Walk = codes "walk"
view_word view.Glue = codes "glue"
view_word view.Bytes = codes "bytes"
view_word view.Parts = codes "parts"
view_word view.Symbols = codes "symbols"

-- how a verb is spelled
abbrev pub verb_word : Verb → List ℕ
verb_word verb.Item = codes "item"
verb_word verb.Clear = codes "clear"
verb_word verb.List = codes "list"
verb_word verb.New = codes "new"
verb_word verb.Open = codes "open"
verb_word verb.Push = codes "push"
verb_word verb.Close = codes "close"
verb_word verb.Append = codes "append"
verb_word verb.Alone = codes "alone"
verb_word verb.Unwrap = codes "unwrap"
verb_word verb.Point = codes "point"
verb_word verb.Restore = codes "restore"
verb_word verb.Expected = codes "expected"
verb_word verb.Counts = codes "counts"
verb_word verb.Build = codes "build"
verb_word verb.Skip = codes "skip"
verb_word verb.Copy = codes "copy"
verb_word verb.Kind = codes "kind"
verb_word verb.Spans = codes "spans"
verb_word verb.Set = codes "set"
verb_word verb.Ids = codes "ids"
verb_word verb.Rewrite = codes "rewrite"
verb_word verb.Expand = codes "expand"
verb_word verb.Arms = codes "arms"
verb_word verb.Split = codes "split"
verb_word verb.Equal = codes "equal"
verb_word verb.Save = codes "save"
verb_word verb.Load = codes "load"
verb_word verb.Read = codes "read"
verb_word verb.Text = codes "text"
verb_word (verb.View view) = view_word view
