-- Examples of texts with replaced parts. Each holds by computation.
use Rattle.std.proofs.Common.{◌≡◌, ℕ, List, [], ◌∷◌, codes, refl}
use Rattle.syntax_edit.specs.Texts.{Replacement, begun, joined, with_all}

-- A space is added between `x=` and `1`, and none between `f(` and `1`, `1` and `;`, or `,` and `1`.
apart : joined (codes "x=") (codes "1") ≡ codes "x= 1"
apart = refl

touching : joined (codes "f(") (codes "1") ≡ codes "f(1"
touching = refl

ended : joined (codes "1") (codes ";") ≡ codes "1;"
ended = refl

listed : joined (codes "f(x,") (codes "1") ≡ codes "f(x,1"
listed = refl

-- No punct becomes joint: a space is added between `,` and `-1`, `,` and a lifetime, and `..` and `,`.
not_joint : joined (codes "f(x,") (codes "-1") ≡ codes "f(x, -1"
not_joint = refl

before_lifetime : joined (codes "f(x,") (codes "'a") ≡ codes "f(x, 'a"
before_lifetime = refl

not_joint_behind : joined (codes "..") (codes ", x") ≡ codes ".. , x"
not_joint_behind = refl

-- `m!()` gives `1` and `n!{}` gives nothing.
replaced_twice : with_all (record { start = 2; end = 6; text = codes "1" } ∷ record { start = 7; end = 11; text = [] } ∷ []) (begun (codes "x m!()+n!{};")) ≡ codes "x 1 + ;"
replaced_twice = refl

-- the bytes from a place to another go
abbrev cut : (start end : ℕ) → Replacement
cut start end = record { start = start; end = end; text = [] }

abbrev without : List Replacement → (source : List ℕ) → List ℕ
without cuts source = with_all cuts (begun source)

-- `m!();` gives nothing. If it stands alone on its line, the line goes: between others, at another depth, in the first line, and in the last.
alone : without (cut 4 9 ∷ []) (codes "{\n  m!();\n  x();\n}\n") ≡ codes "{\n  x();\n}\n"
alone = refl

deeper : without (cut 10 15 ∷ []) (codes "{\n  {\n    m!();\n  }\n}\n") ≡ codes "{\n  {\n  }\n}\n"
deeper = refl

first_line : without (cut 0 5 ∷ []) (codes "m!();\nx();\n") ≡ codes "x();\n"
first_line = refl

last_line : without (cut 5 10 ∷ []) (codes "x();\nm!();\n") ≡ codes "x();\n"
last_line = refl

no_feed : without (cut 7 12 ∷ []) (codes "x();\n  m!();") ≡ codes "x();\n"
no_feed = refl

all_of_it : without (cut 2 7 ∷ []) (codes "  m!();  ") ≡ []
all_of_it = refl

-- So it is with tabs, with a carriage return before the line feed, and with white space behind the call.
tabs : without (cut 3 8 ∷ []) (codes "{\n\tm!(); \t\n}\n") ≡ codes "{\n}\n"
tabs = refl

returns : without (cut 5 10 ∷ []) (codes "{\r\n  m!();\r\n}\r\n") ≡ codes "{\r\n}\r\n"
returns = refl

-- Two calls in two lines, two in one, and one beside a call that gives something.
two_lines : without (cut 4 9 ∷ cut 12 17 ∷ []) (codes "{\n  m!();\n  m!();\n}\n") ≡ codes "{\n}\n"
two_lines = refl

one_line : without (cut 4 9 ∷ cut 10 15 ∷ []) (codes "{\n  m!(); m!();\n}\n") ≡ codes "{\n}\n"
one_line = refl

beside_call : without (cut 4 9 ∷ record { start = 10; end = 15; text = codes "x" } ∷ []) (codes "{\n  m!(); n!();\n}\n") ≡ codes "{\n   x\n}\n"
beside_call = refl

-- A line with anything else stays.
before_other : without (cut 4 9 ∷ []) (codes "{\n  m!(); x();\n}\n") ≡ codes "{\n   x();\n}\n"
before_other = refl

behind_other : without (cut 9 14 ∷ []) (codes "{\n  x(); m!();\n}\n") ≡ codes "{\n  x(); \n}\n"
behind_other = refl

behind_comment : without (cut 9 14 ∷ []) (codes "{\n  /**/ m!();\n}\n") ≡ codes "{\n  /**/ \n}\n"
behind_comment = refl

before_comment : without (cut 4 9 ∷ []) (codes "{\n  m!(); //\n}\n") ≡ codes "{\n   //\n}\n"
before_comment = refl

-- All other lines stay, blank ones too, and a comment in the line before.
blank_lines : without (cut 4 9 ∷ []) (codes "\na\n\nm!();\n\nb\n") ≡ codes "\na\n\n\nb\n"
blank_lines = refl

comment_line : without (cut 5 10 ∷ []) (codes "// a\nm!();\nb\n") ≡ codes "// a\nb\n"
comment_line = refl

no_cut : without [] (codes "\n  \nb\n  ") ≡ codes "\n  \nb\n  "
no_cut = refl
