-- `allowed` meets its contract: each line of the match is a case.
use mathlib.Core.Path.{◌≡◌, refl, sym}
use native.Mathlib.Omega.{arith}
use Rattle.table_size.specs.Cases.{table_cases, table_allowed}
use Rattle.table_size.proofs.Cases.{at_case, past_cases}
use Rattle.table_size.proofs.inner.allowed.Goals as goal

-- O is 1, 2, 3, 4
pub returns-in-1 : goal.returns-in-1
unfolding table_allowed
returns-in-1 c = rw c.in-1.is

pub returns-in-2 : goal.returns-in-2
unfolding table_allowed
returns-in-2 c = rw c.in-2.is

pub returns-in-3 : goal.returns-in-3
unfolding table_allowed
returns-in-3 c = rw c.in-3.is

pub returns-in-4 : goal.returns-in-4
unfolding table_allowed
returns-in-4 c = rw c.in-4.is

-- 5 and 6; 7 to 9; 10 to 16; 17 to 40; 41 to 64
pub returns-in-5 : goal.returns-in-5
returns-in-5 c =
    let a = c.args in
    at_case 4 a.outputs a.n refl (omega arith) (omega arith) (omega arith)

pub returns-in-7-to-9 : goal.returns-in-7-to-9
returns-in-7-to-9 c =
    let a = c.args in at_case 5 a.outputs a.n refl (omega arith) (omega arith) (omega arith)

pub returns-in-10-to-16 : goal.returns-in-10-to-16
returns-in-10-to-16 c =
    let a = c.args in
    at_case 6 a.outputs a.n refl (omega arith) (omega arith) (omega arith)

pub returns-in-17-to-40 : goal.returns-in-17-to-40
returns-in-17-to-40 c =
    let a = c.args in
    at_case 7 a.outputs a.n refl (omega arith) (omega arith) (omega arith)

pub returns-in-41-to-64 : goal.returns-in-41-to-64
returns-in-41-to-64 c =
    let a = c.args in
    at_case 8 a.outputs a.n refl (omega arith) (omega arith) (omega arith)

-- below 1, above 64
pub returns-in_default : goal.returns-in_default
unfolding table_allowed
returns-in_default c = let z : c.args.outputs ≡ 0 = omega arith in rw z

pub returns-in_default-2 : goal.returns-in_default-2
unfolding table_allowed
returns-in_default-2 c =
    let a = c.args in
    sym (past_cases 9 table_cases a.outputs a.n (omega arith))
