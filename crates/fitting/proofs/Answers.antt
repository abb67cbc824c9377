-- The answer that a set of letters stands for is right, and there is no other.
use mathlib.Core.Path.{◌≡◌, refl, sym, ap, ◌∙◌}
use mathlib.Core.Bool.{Bool, true, false}
use mathlib.Core.List.{List}
use Prim.Native.Nat.{ℕ, suc, ◌-◌, ◌*◌, ◌%◌, ◌^◌, ◌<◌, ◌≤◌}
use native.Mathlib.Decide.{ℕ_discrete}
use lib.ListN.{length}
use native.Mathlib.Omega.{arith}
use lib.Count.{count_leading_zeros}
use lib.Dec.{eqb}
use borrow.Author.Tests.{eq-eqb, ne_eqb, eqb-true, eqb-false}
use Rattle.mealy.specs.Setting.{Setting, Same}
use Rattle.mealy.specs.HowFar.{NoRun, HowFar}
use Rattle.mealy.specs.Answer as mealy
use Rattle.mealy.specs.Word.{Holds}
use Rattle.mealy.proofs.Answers.{answer_unique, no_fit↔no_run}
use Rattle.mealy.proofs.SameSettings.{answers_same}
use Rattle.mealy.proofs.Words.{shifted, holds_empty, holds_greatest, holds_another, has_alone, leading_high}
use Rattle.fitting.specs.Answer.{meaning, Right, RightByte, greatest, answer_of, ByteOf}
use Rattle.fitting.specs.declared.Answer.{Answer}
use Rattle.fitting.specs.declared.Answer.TheVariants.{Letter, None, Several}

-- ---- as it is made

pub no_letter : (far : ℕ) → None far ≡ answer_of 0 far
unfolding answer_of
no_letter far = refl

module _ (u far : ℕ) (n : u ≡ 0 → ⊥) where
  made : 1 * 2 ^ greatest u % 2 ^ 16 ≡ 2 ^ greatest u
  made = shifted 16 (greatest u) (omega arith)

  pub several_letters : (u ≡ 1 * 2 ^ greatest u % 2 ^ 16 → ⊥) → Several ≡ answer_of u far
  unfolding answer_of
  several_letters d = rw (ne_eqb u 0 n, ne_eqb u (2 ^ greatest u) (λ e. d (e ∙ sym made)))

  pub one_letter : u ≡ 1 * 2 ^ greatest u % 2 ^ 16 → Letter (greatest u) ≡ answer_of u far
  unfolding answer_of
  one_letter e = rw (ne_eqb u 0 n, eq-eqb u (2 ^ greatest u) (e ∙ made))

-- what `answer_of` needs
pub ruleset answering = (several_letters, one_letter, leading_high)

-- ---- what it means

-- the answer of a word that holds the letters that fit, with the count where it has none
pub holds_right :
    {S : Setting} {w : List ℕ} {b u k : ℕ} → Holds (mealy.Fits S w b) u → (u ≡ 0 → HowFar S w k) → Right S w b (answer_of u k)
unfolding answer_of
holds_right {S} {w} {b} {u} {k} a none = go (eqb u 0) refl
  where
    -- the greatest letter alone, or another one besides
    at :
        eqb u 0 ≡ false → (x : ℕ) → 15 - count_leading_zeros 16 u ≡ x → 2 ^ x ≤ u → u < 2 ^ suc x → mealy.Fits S w b x → (t : Bool) →
        eqb u (2 ^ x) ≡ t → Right S w b (answer_of u k)
    at e x g j m p true f =
        rw (e, g, f) (record { fits = p; alone = λ y q. has_alone y x (rw (eqb-true u (2 ^ x) f) at (a.has y q)) })
    at e x g j m p false f =
        let h = holds_another a x (a.below x p) (let n = eqb-false u (2 ^ x) f in omega arith) m in
        rw (e, g, f)
        (record { x = x; y = h.0; fits₁ = p; fits₂ = h.2; differ = λ (z : x ≡ h.0). let l = h.1 in omega arith })

    go : (t : Bool) → eqb u 0 ≡ t → Right S w b (answer_of u k)
    go true e = rw e (none (eqb-true u 0 e))
    go false e =
        let g = holds_greatest a (eqb-false u 0 e) in
        at e g.0 g.1 g.2 g.3 g.4 (eqb u (2 ^ g.0)) refl

-- The case of the code that a case of the theory is.
case_of : mealy.Answer → Answer
case_of (mealy.letter x) = Letter x
case_of (mealy.none k) = None k
case_of mealy.several = Several

case_meaning : (v : Answer) → case_of (meaning v) ≡ v
unfolding case_of
case_meaning (Letter x) = refl
case_meaning (None k) = refl
case_meaning Several = refl

pub meaning_injective : (v v' : Answer) → meaning v ≡ meaning v' → v ≡ v'
meaning_injective v v' e = sym (case_meaning v) ∙ ap case_of e ∙ case_meaning v'

-- there is one right answer and one right byte
module _ (S : Setting) (w : List ℕ) (b : ℕ) where
  pub right_unique : (v v' : Answer) → Right S w b v → Right S w b v' → v ≡ v'
  right_unique v v' p q = meaning_injective v v' (answer_unique S w b (meaning v) (meaning v') p q)

  pub right_byte : (v : Answer) → Right S w b v → RightByte S w b (mealy.byte_of (meaning v))
  right_byte v r = record { answer = meaning v; right = r; byte = refl }

  pub right_byte_unique : {x y : ℕ} → RightByte S w b x → RightByte S w b y → x ≡ y
  right_byte_unique p q =
      p.byte ∙ ap mealy.byte_of (answer_unique S w b p.answer q.answer p.right q.right) ∙ sym q.byte

  -- the byte of the letters that fit is right whatever count goes with it, where there is a right one
  module _ (inside : b < length w) (some : NoRun S w → (k : ℕ) × HowFar S w k) where
    pub letters_byte : {u : ℕ} (k : ℕ) → Holds (mealy.Fits S w b) u → RightByte S w b (mealy.byte_of (meaning (answer_of u k)))
    unfolding answer_of
    letters_byte {u} k a =
        elim (ℕ_discrete u 0) [
          | yes e ↦
              let j = some ((no_fit↔no_run S w b inside).0 (holds_empty a e)) in
              rw (eq-eqb u 0 e) (record { answer = mealy.none j.0; right = j.1; byte = refl })
          | no e ↦ right_byte (answer_of u k) (holds_right a (λ z. absurd (e z)))
        ]

    pub byte_right : {v : ℕ} → ByteOf (mealy.Fits S w b) v → RightByte S w b v
    byte_right {v} h = rw h.byte (letters_byte 0 h.holds)

-- the byte of a right answer is that in a setting that says the same
pub byte_same :
    {S T : Setting} → Same S T → (w : List ℕ) (b v : ℕ) → RightByte S w b v → RightByte T w b v
byte_same e w b v r = record { answer = r.answer; right = answers_same e w b r.answer r.right; byte = r.byte }
