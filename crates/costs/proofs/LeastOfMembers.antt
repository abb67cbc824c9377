-- The least cost over the members of a set, with one member more.
use Prim.Native.Nat.{ℕ}
use Rattle.setting.specs.Members.{Least}
use Rattle.setting.specs.declared.inner.members.Members.{Members}
use Rattle.first_pair.specs.Cost.{Capped}
use Rattle.first_pair.proofs.Capping.{LeastPassed, least_more}

pub least_one :
    {set cap so_far r s : ℕ} {m n : Members} {Q : ℕ → ℕ → Type 0} → Least m s n → LeastPassed set m.rest Q cap so_far →
    Capped (Q s) so_far r → LeastPassed set n.rest Q cap r
least_one t a h = rw t.left (least_more a t.some (rw t.least at h))
