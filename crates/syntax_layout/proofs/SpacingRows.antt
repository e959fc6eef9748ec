-- Examples of texts with the spaces that rustfmt puts between their tokens. Each holds by computation.
use Rattle.std.proofs.Common.{◌≡◌, ℕ, zero, suc, false, List, [], ◌∷◌, length, codes, refl}
use Rattle.std.specs.Str.{chars}
use Rattle.syntax_layout.specs.Layout.{laid_out}
use Rattle.syntax_layout.specs.Passed.{start}
use Rattle.syntax_layout.specs.Spaces.{spaces}
use Rattle.syntax_lex.specs.Closing.{raw_text}
use Rattle.syntax_lex.specs.Front.{byte_length}
use Rattle.syntax_lex.specs.Number.{number, with_exponent, with_fraction}
use Rattle.syntax_lex.specs.Opening.{opening, symbol}
use Rattle.syntax_lex.specs.Quoted.{apostrophe, literal, quoted_char}
use Rattle.syntax_lex.specs.Reading.{first_token_of, reading, reading_of}
use Rattle.syntax_lex.specs.Word.{word}
use Rattle.syntax_lex.specs.declared.token.Token.{Token}
use Rattle.ucd_emoji.proofs.Computing.{ucd_emoji}
use Rattle.unicode_ident.proofs.Computing.{unicode_ident}

-- at most so many tokens of a text
abbrev pub tokens_of : (most : ℕ) → (text : List ℕ) → List Token
tokens_of zero text = []
tokens_of (suc most) [] = []
tokens_of (suc most) (c ∷ cs) = first_token_of (c ∷ cs) ∷ tokens_of most (reading (c ∷ cs)).1

-- a text with these spaces
abbrev spaced : (text : List ℕ) → List ℕ
spaced text = laid_out text (tokens_of (length text) (chars text)) (spaces start false text (tokens_of (length text) (chars text)))

-- names, types, lifetimes and bounds
types : (spaced (codes "Level :: Warning") ≡ codes "Level::Warning")
    × (spaced (codes "fn text (level : Level) -> &'static str {x}") ≡ codes "fn text(level: Level) -> &'static str { x }")
    × (spaced (codes "x : Vec < [u8 ; 4] > = Vec ::< u8 >:: new ()") ≡ codes "x: Vec<[u8; 4]> = Vec::<u8>::new()")
    × (spaced (codes "impl <'a , T : Copy > Foo <'a > for Bar < T > {}") ≡ codes "impl<'a, T: Copy> Foo<'a> for Bar<T> {}")
    × (spaced (codes "where T : ? Sized + 'a") ≡ codes "where T: ?Sized + 'a")
    × (spaced (codes "pub (crate) fn f < T > (t : & mut T) -> ! {}") ≡ codes "pub(crate) fn f<T>(t: &mut T) -> ! {}")
    × (spaced (codes "dyn Fn (A) -> Box < B >") ≡ codes "dyn Fn(A) -> Box<B>")
    × (spaced (codes "x as * const T") ≡ codes "x as *const T")
    × (spaced (codes "< T as A >:: B") ≡ codes "<T as A>::B")
unfolding chars first_token_of reading reading_of opening symbol word number with_fraction with_exponent literal quoted_char apostrophe raw_text byte_length unicode_ident ucd_emoji lib.Utf8.encode
types = (refl, refl, refl, refl, refl, refl, refl, refl, refl)

-- attributes, uses and macros
items : (spaced (codes "# [derive (Debug , Clone)] struct A ;") ≡ codes "#[derive(Debug, Clone)] struct A;")
    × (spaced (codes "#! [allow (x)]") ≡ codes "#![allow(x)]")
    × (spaced (codes "use a :: {b , c :: {d , *}} ;") ≡ codes "use a::{b, c::{d, *}};")
    × (spaced (codes "vec ! [1 , 2]") ≡ codes "vec![1, 2]")
    × (spaced (codes "macro_rules ! m {() => {} ;}") ≡ codes "macro_rules! m { () => {}; }")
    × (spaced (codes "struct P (pub &'static str)") ≡ codes "struct P(pub &'static str)")
unfolding chars first_token_of reading reading_of opening symbol word number with_fraction with_exponent literal quoted_char apostrophe raw_text byte_length unicode_ident ucd_emoji lib.Utf8.encode
items = (refl, refl, refl, refl, refl, refl)

-- expressions and patterns
expressions : (spaced (codes "a + b * - c") ≡ codes "a + b * -c")
    × (spaced (codes "match x {A => 1 , _ => 2}") ≡ codes "match x { A => 1, _ => 2 }")
    × (spaced (codes "if a < b && ! c || d > e {f (& g) ?. h}") ≡ codes "if a < b && !c || d > e { f(&g)?.h }")
    × (spaced (codes "x != y") ≡ codes "x != y")
    × (spaced (codes "| x , y | x | y") ≡ codes "|x, y| x | y")
    × (spaced (codes "move || 1") ≡ codes "move || 1")
    × (spaced (codes "for i in 0 .. n {* p = - 1 ;}") ≡ codes "for i in 0..n { *p = -1; }")
    × (spaced (codes "S {a , .. b}") ≡ codes "S { a, ..b }")
    × (spaced (codes "a ..= b") ≡ codes "a..=b")
    × (spaced (codes "'a : loop {break 'a ;}") ≡ codes "'a: loop { break 'a; }")
    × (spaced (codes "t . 0 . x [1] (2)") ≡ codes "t.0.x[1](2)")
    × (spaced (codes "Some (A | B) if a == b") ≡ codes "Some(A | B) if a == b")
    × (spaced (codes "return (a , b)") ≡ codes "return (a, b)")
    × (spaced (codes "x << 2 >= y") ≡ codes "x << 2 >= y")
unfolding chars first_token_of reading reading_of opening symbol word number with_fraction with_exponent literal quoted_char apostrophe raw_text byte_length unicode_ident ucd_emoji lib.Utf8.encode
expressions = (refl, refl, refl, refl, refl, refl, refl, refl, refl, refl, refl, refl, refl, refl)

-- puncts that are not joint stay so, and tokens that would be read as others stay apart
apart : (spaced (codes "x : & 'a T") ≡ codes "x: & 'a T")
    × (spaced (codes "f () ? . g") ≡ codes "f()? .g")
    × (spaced (codes "a - > b") ≡ codes "a - > b")
    × (spaced (codes "0 . 1") ≡ codes "0 .1")
    × (spaced (codes "- - x") ≡ codes "- -x")
    × (spaced (codes "a \"b\"") ≡ codes "a \"b\"")
unfolding chars first_token_of reading reading_of opening symbol word number with_fraction with_exponent literal quoted_char apostrophe raw_text byte_length unicode_ident ucd_emoji lib.Utf8.encode
apart = (refl, refl, refl, refl, refl, refl)
