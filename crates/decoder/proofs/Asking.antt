-- A call that is not refused asks its checked part rightly, whatever other buffers are lent.
use mathlib.Core.Path.{◌≡◌}
use mathlib.Core.Bool.{Bool}
use mathlib.Core.List.{List}
use Prim.Native.Nat.{ℕ}
use lib.ListN.{length}
use lib.Dec.{leb}
use borrow.Author.Tests.{leb-true}
use Rattle.coder.specs.File.{outputs_of}
use Rattle.coder.proofs.Refusals.{both_true}
use Rattle.values.specs.declared.Window.{Window}
use Rattle.decoder_refusal.specs.Refusal.{places, string_refusal_in, table_size, table_refusal_in}
use Rattle.decoder_refusal.proofs.Accepting.{string_accepted, table_accepted}
use Rattle.decoder.specs.Places.{StringAsked}
use Rattle.decoder.specs.Table.{TableAsked}

pub string_asked :
    (f : List ℕ) (w : Window) (received before : List ℕ) (others : Bool) →
    string_refusal_in f w received (length before) others ≡ 0 → StringAsked f w received before
string_asked f w received before others e =
    let fits = (string_accepted f w received _ e).fits in
    record { accepted = rw fits at e; room = leb-true _ _ (both_true (leb (places (length received) w) (length before)) others fits).0 }

pub table_asked :
    (f : List ℕ) (w : Window) (before : List ℕ) (others : Bool) →
    table_refusal_in f w (length before) others ≡ 0 → TableAsked f w before
table_asked f w before others e =
    let fits = (table_accepted f w _ e).fits in
    record { accepted = rw fits at e; room = leb-true _ _ (both_true (leb (table_size (outputs_of f) w) (length before)) others fits).0 }
