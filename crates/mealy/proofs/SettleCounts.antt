-- Windows of different settle counts: the letters of the settle count can be read as letters before; so existence is the same for every
-- count, a larger count never gives a later window, and from N - 1 on nothing changes.
use mathlib.Core.Path.{◌≡◌, ap, ◌∙◌}
use mathlib.Core.Logic.{◌≢◌}
use mathlib.Core.List.{List}
use Prim.Native.Nat.{ℕ, suc, ◌+◌, ◌≤◌, ◌<◌}
use native.Mathlib.Omega.{arith}
use lib.ListN.{length, take, drop}
use lib.Seq.{length-take-le, get_or-drop}
use Rattle.mealy.specs.Machine.{Machine, end, Letters, Total}
use Rattle.mealy.specs.Reachable.{StartAfter}
use Rattle.mealy.specs.Setting.{Same, after_letters}
use Rattle.mealy.specs.Window.{Works}
use Rattle.mealy.specs.Order.{Relation, Least}
use Rattle.mealy.proofs.RunParts.{letters_take, equal_from}
use Rattle.mealy.proofs.SameSettings.{same_starts}
use Rattle.mealy.proofs.StartStates.{start_along, start_down, after_closed, start_unchanged}

module _ (M : Machine) where
  -- of the settle count p, d letters can be letters before instead
  works_trade : (p q d b a : ℕ) → p ≤ d + q → Works (after_letters M p) b a → Works (after_letters M q) (d + b) a
  works_trade p q d b a l f s t xs ys h g w c =
      f (end M s (take d xs)) (end M t (take d ys)) (drop d xs) (drop d ys)
      (later s xs h w.letters₁ w.length₁) (later t ys g w.letters₂ w.length₂)
      (equal_from M d (b + 1 + a) s t xs ys w.letters₁ w.letters₂ (w.length₁ ∙ omega arith) (w.length₂ ∙ omega arith)
      (ap (drop d) w.outputs))
      (rw (get_or-drop d xs b 0, get_or-drop d ys b 0) c)
    where
      later :
          (s : ℕ) (xs : List ℕ) → StartAfter M q s → Letters M.inputs xs → length xs ≡ d + b + 1 + a →
          StartAfter M p (end M s (take d xs))
      later s xs h k n =
          let m = length-take-le d xs (omega arith) in
          start_down M p (d + q) _ l (start_along M q (d + q) s (take d xs) h (letters_take M.inputs d xs k) (omega arith))

  -- Existence: no window works with one settle count, so none with any.
  pub works_none : (p q : ℕ) → ((b a : ℕ) → Works (after_letters M p) b a → ⊥) → (b a : ℕ) → Works (after_letters M q) b a → ⊥
  works_none p q f b a w = f (q + b) a (works_trade q p q b a (omega arith) w)

  -- With a larger settle count the same windows work, and so the least one comes no later.
  pub works_later : (p q b a : ℕ) → p ≤ q → Works (after_letters M p) b a → Works (after_letters M q) b a
  works_later p q b a l f s t xs ys h g = f s t xs ys (start_down M p q s l h) (start_down M p q t l g)

  pub least_later :
      (R : Relation) (p q b a b' a' : ℕ) → p ≤ q → Least R (after_letters M p) b a → Least R (after_letters M q) b' a' → R b' a' b a
  least_later R p q b a b' a' l m n = n.least b a (works_later p q b a l m.works)

  -- From N - 1 letters on the settings say the same.
  pub same_unchanged :
      Total M → 0 < M.states → 0 < M.inputs → (p q : ℕ) → M.states ≤ suc p → M.states ≤ suc q → Same (after_letters M p) (after_letters M q)
  same_unchanged total some inputs p q l m =
      same_starts M (λ i j. i ≢ j) (after_closed M p) (λ s h. start_unchanged M total some inputs p l s h q)
      (λ s h. start_unchanged M total some inputs q m s h p)
