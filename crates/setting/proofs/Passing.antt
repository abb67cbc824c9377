-- A loop over the members of a set: each is below 16, and what the union so far is after one more and after all.
use Prim.Native.Nat.{ℕ, ◌<◌}
use lib.Bits.{bit_or}
use Rattle.mealy.specs.Word.{Holds}
use Rattle.mealy.proofs.Members.{Rest, Passed, least_member, passed_more}
use Rattle.setting.specs.Members.{Least}
use Rattle.setting.specs.declared.inner.members.Members.{Members}

module _ {set : ℕ} {m n : Members} {s : ℕ} (t : Least m s n) where
  pub member_below : Rest set m.rest → s < 16
  member_below a = rw t.least ((least_member 16 m.rest a.bound t.some).below)

  pub passed_one :
      {so_far v : ℕ} {Q : ℕ → ℕ → Type 0} → Passed set m.rest Q so_far → Holds (Q s) v →
      Passed set n.rest Q (bit_or so_far v)
  passed_one a h = rw t.left (passed_more a t.some (rw t.least at h))
