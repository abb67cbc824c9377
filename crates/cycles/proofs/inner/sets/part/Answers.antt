use mathlib.Core.Path.{◌≡◌, refl}
use Prim.Native.Nat.{ℕ, ◌<◌}
use lib.ListN.{length, get_or}
use mathlib.Core.Bool.{false}
use borrow.Author.Rules.{rules}
use lib.Seq.{get_or-set_same}
use Rattle.cycles.proofs.PairSets.{parted_none, parted_more, parted_all}
use native.Mathlib.Omega.{arith}
use Rattle.cycles.proofs.inner.sets.part.Goals as goal

pub loop-x-init : goal.loop-x-init
loop-x-init c = parted_none c.requires.0.size c.requires.1.size

pub loop-x-preserved : goal.loop-x-preserved
loop-x-preserved c =
    let i = c.loop-x in
    let l : i.x < 16 = omega arith in
    let m : i.x < length i.to = omega (arith, i.invariant.fresh.size) in
    parted_more i.invariant l refl (rw get_or-set_same refl)

pub returns : goal.returns
returns c =
    let p = c.requires in
    let i = c.loop-x in
    let z : c.any.result ≡ false → (x : ℕ) → x < length i.to → get_or i.to x 0 ≡ 0 = search rules in
    parted_all p.0 p.1 i.invariant (omega arith) (λ q x l. z q x (omega (arith, i.invariant.fresh.size)))
