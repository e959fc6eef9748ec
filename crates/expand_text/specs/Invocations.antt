-- A call that is expanded, and its place.
use Rattle.std.specs.Prelude.{◌≡◌, ℕ, Bool, true, Some, None, if◌then◌else◌}
use Rattle.tt.specs.Forest.{Forest, Root, size}
use Rattle.tt.specs.Span.{start_of}
use Rattle.mbe_pattern.specs.Units.{front_trees, is_brace}
use Rattle.expand_items.specs.Items.{Call}
use Rattle.expand_items.specs.Positions.{behind}
use Rattle.expand_text.specs.declared.fault.Finding.{Finding}
use Rattle.expand_text.specs.declared.fault.MacroFault.{MacroFault}
use Rattle.expand_text.specs.declared.invocation.Invocation.{Invocation}
use Rattle.expand_text.specs.declared.part.Part.{Part}
use Rattle.expand_text.specs.declared.walk.Level as rust
use Rattle.expand_text.specs.CallSites.{CallSite}
use Rattle.expand_text.specs.Contexts.{Config, Context, inside_call}
use Rattle.expand_text.specs.Meaning.{begin_in, begun_by, body, body_in, end_in, site_in, takes_in, whole_in}

-- a call that comes first at a level as a part, with the `;` behind it if it is a part of it
abbrev pub call_part : rust.Level → Call → (semicolon : Bool) → Part
call_part level it semicolon =
    record {
      len = it.len;
      semicolon = semicolon;
      position = if semicolon then behind true (behind (is_brace it.delimiter.kind) level.position) else behind (is_brace it.delimiter.kind) level.position;
      plain = level.plain;
    }

-- the place of a call of these trees
abbrev pub site_of : (whole : Forest) → Invocation → CallSite
site_of whole it =
    record {
      attributes = front_trees it.attributes whole;
      len = it.attributes;
      enclosure = it.enclosure;
      position = it.position;
      delimiter = it.delimiter;
    }

-- what an arm made of it
abbrev pub body_of : Invocation → Root → Forest
body_of it tree = body it.is_statement tree

-- a finding in a call
abbrev pub found_by : Invocation → (at : ℕ) → MacroFault → Finding
found_by it at fault = record { name = it.name; at = at; fault = fault; defined_at = Some it.defined_at; expected = None; caller = None }

-- what is known inside its expansion
abbrev pub entered_by : Config → Invocation → Root → Context → Context
entered_by config it tree context = inside_call config it.name (start_of it.first_span.range) (size tree.children) context

-- the invocation of a call that expands to that tree, by a macro whose name begins at that byte, if these trees come first at a level
pub record IsInvocation (level : rust.Level) (trees : Forest) (it : Call) (tree : Root) (defined_at : ℕ) (invocation : Invocation) : Type 0 where
  pub name : invocation.name ≡ it.name.sym
  pub defined : invocation.defined_at ≡ defined_at
  pub first : invocation.first_span ≡ begin_in it trees
  pub last : invocation.last_span ≡ end_in level.position it trees tree
  pub part : invocation.part ≡ call_part level it (takes_in level.position it trees tree)
  pub site : (whole : Forest) → whole ≡ whole_in level.position it trees tree → site_of whole invocation ≡ site_in level.position it trees tree
  pub begins : invocation.position ≡ begun_by level.position it trees
  pub makes : body_of invocation tree ≡ body_in level.position it trees tree
