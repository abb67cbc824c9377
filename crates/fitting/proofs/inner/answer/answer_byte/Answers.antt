-- `answer_byte` meets its contract: the letter, 254 for none, and 255 for what is neither.
use Prim.Native.Nat.{ℕ}
use mathlib.Core.Path.{◌≡◌, refl}
use Rattle.mealy.specs.Answer.{byte_of}
use Rattle.fitting.specs.Answer.{meaning}
use Rattle.fitting.specs.declared.Answer.{Answer}
use Rattle.fitting.specs.declared.Answer.TheVariants.{Letter, None, Several}
use Rattle.fitting.proofs.inner.answer.answer_byte.Goals as goal

-- what is neither a letter nor none
left : (a : Answer) → ((x : ℕ) → a ≡ Letter x → ⊥) → ((k : ℕ) → a ≡ None k → ⊥) → 255 ≡ byte_of (meaning a)
left (Letter x) h g = absurd (h x refl)
left (None k) h g = absurd (g k refl)
left Several h g = refl

pub returns-in_default-a : goal.returns-in_default-a
returns-in_default-a c = left c.args.a c.in_default.not-Letter c.in_default-a.not-None
