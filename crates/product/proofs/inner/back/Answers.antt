-- `back` meets its contract: next states are the near ends, states the far ends.
use Rattle.mealy.specs.Product.{back}
use mathlib.Core.Path.{refl}
use Rattle.product.proofs.inner.back.Goals as goal

pub along-requires : goal.along-requires
along-requires c = record {
  d = back;
  sound = c.requires;
  near_is = refl;
  far_is = c.place_states.ensures;
}

pub returns : goal.returns
returns c = c.along.ensures back refl c.place_states.ensures
