-- `forward` meets its contract: states are the near ends, next states the far ends.
use Rattle.mealy.specs.Product.{forward}
use mathlib.Core.Path.{refl}
use Rattle.product.proofs.inner.forward.Goals as goal

pub along-requires : goal.along-requires
along-requires c = record {
  d = forward;
  sound = c.requires;
  near_is = c.place_states.ensures;
  far_is = refl;
}

pub returns : goal.returns
returns c = c.along.ensures forward c.place_states.ensures refl
