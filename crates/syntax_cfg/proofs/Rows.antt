-- What texts say. rustc's option `--cfg` takes and refuses the same texts, but takes escapes too.
use Rattle.std.proofs.Common.{◌≡◌, None, Some, codes, refl}
use Rattle.std.specs.Str.{chars, trim_end, trim_start}
use Rattle.unicode_ident.proofs.Computing.{unicode_ident}
use Rattle.syntax_cfg.specs.Cfg.{cfg_in, flag, pair}
use Rattle.syntax_lex.specs.Front.{byte_length}
use Rattle.syntax_lex.specs.Number.{number, with_exponent, with_fraction}
use Rattle.syntax_lex.specs.Opening.{opening, symbol}
use Rattle.syntax_lex.specs.Quoted.{literal}
use Rattle.syntax_lex.specs.Reading.{first_token_of, reading, reading_of}
use Rattle.syntax_lex.specs.Word.{word}

said : (cfg_in (codes "docsrs") ≡ Some (flag (codes "docsrs")))
    × (cfg_in (codes " r#in ") ≡ Some (flag (codes "in")))
    × (cfg_in (codes "feature=\"a b\"") ≡ Some (pair (codes "feature") (codes "a b")))
    × (cfg_in (codes "r#in = \"\" ") ≡ Some (pair (codes "in") (codes "")))
    × (cfg_in (codes "a=\"b=c\"") ≡ Some (pair (codes "a") (codes "b=c")))
unfolding first_token_of reading reading_of opening symbol word literal number with_fraction with_exponent byte_length lib.Utf8.encode unicode_ident chars trim_end trim_start
said = (refl, refl, refl, refl, refl)

-- No name, two names, a raw name twice, a number, no value, a value without quotes, with one more, with something behind it, and with an escape.
nothing : (cfg_in (codes "") ≡ None)
    × (cfg_in (codes "a b") ≡ None)
    × (cfg_in (codes "r#r#a") ≡ None)
    × (cfg_in (codes "1") ≡ None)
    × (cfg_in (codes "a=") ≡ None)
    × (cfg_in (codes "a=b") ≡ None)
    × (cfg_in (codes "a=\"b") ≡ None)
    × (cfg_in (codes "a=\"b\"c\"") ≡ None)
    × (cfg_in (codes "a=\"b\" c") ≡ None)
    × (cfg_in (codes "a=\"\\n\"") ≡ None)
    × (cfg_in (codes "=\"b\"") ≡ None)
unfolding first_token_of reading reading_of opening symbol word literal number with_fraction with_exponent byte_length lib.Utf8.encode unicode_ident chars trim_end trim_start
nothing = (refl, refl, refl, refl, refl, refl, refl, refl, refl, refl, refl)
