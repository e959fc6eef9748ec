use Rattle.std.proofs.Common.{◌≡◌, ◌-◌, ◌<◌, true, false, length, arith, rules}
use Rattle.tt.proofs.WorkStands.{closing, closed_fits, closed_large, closed_off, header_within}
use Rattle.tt.proofs.transform.Rewriting.close.Goals as goal

pub returns-then-not-self-clause-goes : goal.returns-then-not-self-clause-goes
returns-then-not-self-clause-goes c = λ work is.
    let off : c.args.self.now.fits ≡ false = search rules in
    rw off (closed_off _ _ _ _ work (closing false _ _ _ work (rw off at is)))

pub returns-in-Ok-clause-goes : goal.returns-in-Ok-clause-goes
returns-in-Ok-clause-goes c = λ work is.
    let on : c.args.self.now.fits ≡ true = search rules in
    let long : c.len.result ≡ length c.args.self.now.list.items = search rules in
    let count : c.in-Ok.len ≡ length c.args.self.now.list.items - c.args.frame.header - 1 = omega (arith, long, c.in-Ok.ensures) in
    rw on (closed_fits _ _ _ _ work c.in-Ok.len count c.set_count.ensures (closing true _ _ _ work (rw on at is)))

pub returns-in-Err-clause-goes : goal.returns-in-Err-clause-goes
returns-in-Err-clause-goes c = λ work is.
    let on : c.args.self.now.fits ≡ true = search rules in
    let long : c.len.result ≡ length c.args.self.now.list.items = search rules in
    let many : 4294967295 < length c.args.self.now.list.items - c.args.frame.header - 1 = omega (arith, long, c.in-Err.ensures) in
    closed_large _ _ _ _ work many (closing true _ _ _ work (rw on at is))

pub overflow_sub-count : goal.overflow_sub-count
overflow_sub-count c =
    let on : c.args.self.now.fits ≡ true = search rules in
    let long : c.len.result ≡ length c.args.self.now.list.items = search rules in
    omega (arith, long, header_within _ _ _ c.requires.0 (closing true _ _ _ c.requires.0 (rw on at c.requires.1)))

pub overflow_sub-count-2 : goal.overflow_sub-count-2
overflow_sub-count-2 c =
    let on : c.args.self.now.fits ≡ true = search rules in
    let long : c.len.result ≡ length c.args.self.now.list.items = search rules in
    omega (arith, long, header_within _ _ _ c.requires.0 (closing true _ _ _ c.requires.0 (rw on at c.requires.1)))

pub set_count-requires : goal.set_count-requires
set_count-requires c =
    let on : c.args.self.now.fits ≡ true = search rules in
    header_within _ _ _ c.requires.0 (closing true _ _ _ c.requires.0 (rw on at c.requires.1))
