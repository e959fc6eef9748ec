-- Texts as trees in bytes, and trees in bytes as texts.
use Rattle.std.specs.Prelude.{◌≡◌, ◌⊎◌, ℕ, List, IsUtf8}
use Rattle.std.specs.Str.Lossy.{utf8_valid_len}
use Rattle.tt_base.specs.declared.fault.TtFault.{TtFault}
use Rattle.tt_base.specs.declared.span.SpanPart.{SpanPart}
use Rattle.tt_base.specs.Forest.{Root}
use Rattle.tt_bytes.specs.Format.{AreBytesOf, IsRefusal as IsBytesRefusal}
use Rattle.app_c.specs.Bytes.{AreOfNoTree}
use Rattle.app_c.specs.Failures.{at_place, limit_fault, placeless, text_failure, write_failure}
use Rattle.app_c.specs.declared.failure.Failure.{Failure}
use Rattle.app_c.specs.declared.fault.Fault.TheVariants.{NotUtf8}
use Rattle.syntax_edit.specs.Splices.{IsSpelling}
use Rattle.syntax_layout.specs.Spaces.{IsSpacedText}
use Rattle.syntax_parse.specs.Parsed.{IsParse}
use Rattle.syntax_parse.specs.Refusal.{IsRefusal}
use Rattle.syntax_parse.specs.declared.fault.TextFault.{TextFault}
use Rattle.syntax_unparse.specs.Writable.{IsWritable, IsWriteFault}
use Rattle.syntax_unparse.specs.declared.fault.WriteFault.{WriteFault}

-- a text of no file: file 0, item 0, context 0
abbrev pub text_part : SpanPart
text_part = record { anchor = record { file_id = record { 0 = 0 }; ast_id = record { 0 = 0 } }; ctx = record { 0 = 0 } }

-- the text is not UTF-8, with the byte
pub record IsNoText (text : List ℕ) (failure : Failure) : Type 0 where
  pub none : IsUtf8 text → ⊥
  pub failure_is : failure ≡ at_place NotUtf8 (utf8_valid_len text)

-- the tree of a text
pub record IsTreeOf (text : List ℕ) (root : Root) : Type 0 where
  pub utf8 : IsUtf8 text
  pub parse : IsParse text_part text root

-- a text has no tree, with the reason
abbrev pub HasNoTree : (text : List ℕ) → Failure → Type 0
HasNoTree text failure = IsNoText text failure ⊎ ((fault : TextFault) × IsRefusal text_part text fault × (failure ≡ text_failure fault))

-- a tree has no bytes, with the reason
abbrev pub HasNoBytes : Root → Failure → Type 0
HasNoBytes root failure = (fault : TtFault) × IsBytesRefusal root fault × (failure ≡ placeless (limit_fault fault))

-- the bytes of the tree of a text
abbrev pub AreBytesOfText : (text bytes : List ℕ) → Type 0
AreBytesOfText text bytes = (root : Root) × IsTreeOf text root × AreBytesOf root bytes

-- why a text has no such bytes
abbrev pub HasNone : (text : List ℕ) → Failure → Type 0
HasNone text failure = HasNoTree text failure ⊎ ((root : Root) × IsTreeOf text root × HasNoBytes root failure)

-- the Rust text of a tree whose leaves can all be written, spaced as by rustfmt within a line; it reads back as the tree
pub record IsTextOf (root : Root) (text : List ℕ) : Type 0 where
  pub writable : IsWritable root.children
  pub is : IsSpacedText root.children text
  pub spells : IsSpelling root.children text

-- a tree has no text, with the reason
abbrev pub HasNoText : Root → Failure → Type 0
HasNoText root failure = (fault : WriteFault) × IsWriteFault root.children fault × (failure ≡ write_failure fault)

-- the Rust text of the tree that has these bytes
abbrev pub IsTextOfBytes : (bytes text : List ℕ) → Type 0
IsTextOfBytes bytes text = (root : Root) × AreBytesOf root bytes × IsTextOf root text

-- why the bytes have no such text
abbrev pub HaveNoText : (bytes : List ℕ) → Failure → Type 0
HaveNoText bytes failure = AreOfNoTree bytes failure ⊎ ((root : Root) × AreBytesOf root bytes × HasNoText root failure)
