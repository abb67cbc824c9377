-- A call from C beside the library's own call: what a refusal leaves, when there is room for an answer, and that outcomes are determined
-- where the own call's are.
use mathlib.Core.Path.{◌≡◌, refl, sym, ap, ◌∙◌}
use mathlib.Core.Bool.{Bool, true}
use mathlib.Core.List.{List, []}
use Prim.Native.Nat.{ℕ, zero, suc, ◌≤◌}
use lib.ListN.{length}
use borrow.Author.Tests.{le-leb}
use Rattle.std.specs.Prelude.{Result, Err}
use Rattle.coder.specs.declared.refusal.Refusal.{Refusal}
use Rattle.coder.specs.Refusal.{answer, upon}
use Rattle.coder.specs.Refused.{number_of, refusal_of, Refused}
use Rattle.coder.proofs.Refused.{number_some}
use Rattle.layout.specs.Layout.{result_bytes, fields_of, with_fields}
use Rattle.layout.specs.Host.{roomy, Laid, refused, laid, LaidOut, Handed, FromHost}

-- ---- laying out

-- a refusal changes no byte of the result buffer
pub no_fields : (result : List ℕ) → with_fields result [] ≡ result
unfolding fields_of
no_fields result = refl

pub refused_out : (k : ℕ) (result : List ℕ) → LaidOut (refused k) result k result
refused_out k result = record { number = refl; fields = sym (no_fields result) }

-- what a host finds of a result that is laid out as l
pub out_as : {l l' : Laid} {result : List ℕ} {r : ℕ} {result' : List ℕ} → l ≡ l' → LaidOut l result r result' → LaidOut l' result r result'
out_as e h = rw e at h

-- an own result by its refusal k: where 0 is returned for it, and more than 0 for every refusal, k is 0
pub not_refused :
    {R : Type 0} (lay : R → Laid) (k : ℕ) (refusing : ℕ → R) (d : R) {r : R} → ((j : ℕ) → (lay (refusing (suc j))).returned ≡ 0 → ⊥) →
    r ≡ answer k refusing d → (lay r).returned ≡ 0 → k ≡ 0
not_refused lay zero refusing d h e z = refl
not_refused lay (suc k) refusing d h e z = absurd (h k (ap (λ x. (lay x).returned) (sym e) ∙ z))

pub not_refused_upon :
    {R : Type 0} (lay : R → Laid) (k : ℕ) (refusing : ℕ → R) (Answered : Type 0) {r : R} →
    ((j : ℕ) → (lay (refusing (suc j))).returned ≡ 0 → ⊥) → upon k (λ j. r ≡ refusing j) Answered → (lay r).returned ≡ 0 → k ≡ 0
not_refused_upon lay zero refusing Answered h e z = refl
not_refused_upon lay (suc k) refusing Answered h e z = absurd (h k (ap (λ x. (lay x).returned) (sym e) ∙ z))

-- of results that are laid out by their fields: a refusal has a number above 0
module _ {A : Type 0} (fields : A → List ℕ) (k : ℕ) (r : Result A Refusal) where
  pub no_refusal : (d : Result A Refusal) → r ≡ answer k (λ j. Refused j) d → (laid fields r).returned ≡ 0 → k ≡ 0
  no_refusal d = not_refused (laid fields) k (λ j. Refused j) d (λ j. number_some (refusal_of (suc j)))

  pub no_refusal_upon : (Answered : Type 0) → upon k (λ j. r ≡ Refused j) Answered → (laid fields r).returned ≡ 0 → k ≡ 0
  no_refusal_upon Answered = not_refused_upon (laid fields) k (λ j. Refused j) Answered (λ j. number_some (refusal_of (suc j)))

-- ---- one law for every call from C

module _ {R : Type 0} (Promise : Bool → R → Type 0) (laid : R → Laid) {result : List ℕ} {r : ℕ} {result' : List ℕ} where
  -- with a result buffer that is long enough it gives what the library's own call gives
  pub from_host : result_bytes ≤ length result → FromHost Promise laid result r result' → Handed (Promise true) laid result r result'
  from_host long h = rw (le-leb result_bytes (length result) long) at h

  -- and so it does where it returned 0, if an own outcome that is no refusal says that the other buffers are long enough
  pub answered_host :
      ((others : Bool) (own : R) → Promise others own → (laid own).returned ≡ 0 → others ≡ true) → r ≡ 0 →
      FromHost Promise laid result r result' → Handed (Promise true) laid result r result'
  answered_host enough z h =
      rw (enough (roomy result) h.own h.promised (sym h.out.number ∙ z)) at h

-- ---- outcomes of two calls

-- Two own outcomes are the same, so that what is returned and the fields are, where the laid results are.
pub same_out :
    {l l₂ : Laid} {result result' result₂ : List ℕ} {r q : ℕ} → l ≡ l₂ → LaidOut l result r result' → LaidOut l₂ result q result₂ →
    (r ≡ q) × (result' ≡ result₂)
same_out {result = result} e h h₂ = (
  h.number ∙ ap (λ (x : Laid). x.returned) e ∙ sym h₂.number,
  h.fields ∙ ap (λ (x : Laid). with_fields result x.fields) e ∙ sym h₂.fields,
)

module _ {R : Type 0} {laid laid₂ : R → Laid} {result : List ℕ} {r q : ℕ} {result' result₂ : List ℕ} where
  -- of calls that write nothing but the fields
  pub same_host :
      {P P₂ : R → Type 0} → ((own own₂ : R) → P own → P₂ own₂ → laid own ≡ laid₂ own₂) → Handed P laid result r result' →
      Handed P₂ laid₂ result q result₂ → (r ≡ q) × (result' ≡ result₂)
  same_host u h h₂ = same_out (u h.own h₂.own h.promised h₂.promised) h.out h₂.out

  -- and of calls that write a buffer besides
  pub same_host_buffer :
      {P P₂ : R → Type 0} {after after₂ : List ℕ} →
      ((own own₂ : R) → P own → P₂ own₂ → (laid own ≡ laid₂ own₂) × (after ≡ after₂)) → Handed P laid result r result' →
      Handed P₂ laid₂ result q result₂ → (r ≡ q) × ((after ≡ after₂) × (result' ≡ result₂))
  same_host_buffer u h h₂ =
      let e = u h.own h₂.own h.promised h₂.promised in
      let d = same_out e.0 h.out h₂.out in
      (d.0, (e.1, d.1))

-- ---- a refusal and an answer, handed over

module _ {A : Type 0} {Promise : Result A Refusal → Type 0} {fields : A → List ℕ} {result : List ℕ} where
  pub refusal_handed : (e : Refusal) (r : ℕ) → r ≡ number_of e → Promise (Err e) → Handed Promise (laid fields) result r result
  refusal_handed e r n p = record { own = Err e; promised = p; out = rw n (refused_out (number_of e) result) }
