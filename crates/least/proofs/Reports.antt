-- From the counted edges to what is reported: no window, or the least one.
use mathlib.Core.List.{List}
use Prim.Native.Nat.{ℕ, ◌<◌}
use native.Mathlib.Decide.{dec_lt}
use Rattle.std.proofs.lemmas.Grind.{not_there}
use lib.ListN.{get_or}
use Rattle.std.specs.Prelude.{Some, None}
use Rattle.mealy.specs.Order.{Relation, IsOrder}
use Rattle.coder.specs.Limits.{max_side}
use Rattle.coder.specs.Table.{Sound}
use Rattle.coder.specs.declared.inner.tables.Coder.{Coder}
use Rattle.product.specs.Depth.{endless}
use Rattle.values.specs.declared.Window.{Window}
use Rattle.product.specs.Conflict.{EndlessConflict}
use Rattle.least.specs.Need.{AllCounted, Needs, Chosen}
use Rattle.least.specs.Report.{DepthsOf, LeastGiven}
use Rattle.least.proofs.Meaning.{need_finite, least_window, sides_small, endless_edge}

module _ (c : Coder) (conflicts : List ℕ) (sound : Sound c) {backs forwards : List (List ℕ)} where
  pub none_given :
      ((p : ℕ) × (q : ℕ) × EndlessConflict c conflicts backs forwards p q) → (R : Relation) (p : ℕ) →
      LeastGiven R p c backs forwards conflicts None
  none_given e R p starts d =
      endless_edge c starts conflicts sound backs forwards d.back_depths d.forward_depths e.0 e.1 e.2

  module _ {worst : List ℕ} (done : AllCounted c conflicts backs forwards worst) (need : List ℕ) (needs : Needs worst need) where
    pub choose_asked : ∥ ((starts : ℕ) × DepthsOf c starts backs forwards) ∥₁ → get_or need max_side 0 < endless
    choose_asked t = elim (dec_lt (get_or need max_side 0) endless) [
      | yes l ↦ l
      | no n ↦ absurd (not_there t (λ d. n
          (need_finite c d.0 conflicts sound backs forwards d.1.back_depths d.1.forward_depths worst need done.counted done.sources needs)))
    ]

    pub least_given :
        {R : Relation} {p : ℕ} → IsOrder R → (w : Window) → Chosen R p need w → LeastGiven R p c backs forwards conflicts (Some w)
    least_given order w h starts d =
        let l =
        least_window c starts conflicts sound backs forwards d.back_depths d.forward_depths worst need done.counted
        done.sources needs order d.closed w h in
        let s =
        sides_small c starts conflicts sound backs forwards d.back_depths d.forward_depths order d.closed w.before
        w.after l in
        record { settle = h.settle; least = l; before_small = s.0; after_small = s.1 }
