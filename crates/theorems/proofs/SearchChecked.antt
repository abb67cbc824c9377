-- What the search gives, the checker accepts, also from C, and it keeps the bounds: over the promises of the two calls alone.
use mathlib.Core.Path.{◌≡◌, ap}
use mathlib.Core.Bool.{true}
use mathlib.Core.List.{List, []}
use Prim.Native.Nat.{ℕ, ◌*◌, ◌<◌}
use native.Mathlib.Nat.{mul-le-mul}
use native.Mathlib.Omega.{arith}
use lib.ListN.{length, take}
use lib.Seq.{length-take-le}
use lib.Dec.{lit<}
use borrow.Author.Tests.{lt-ltb, eq-eqb}
use Rattle.mealy.specs.LoopedPair.{letters, first, second}
use Rattle.mealy.proofs.PairBytes.{valid_letters, valid_cut}
use Rattle.coder.specs.File.{file_refusal, states_of, inputs_of, machine_of, setting_of}
use Rattle.coder.proofs.Accepted.{accepted}
use Rattle.coder.proofs.Tables.{file_bounded}
use Rattle.coder.proofs.Judging.{judges_yes}
use Rattle.values.specs.Pair.{pair_of}
use Rattle.values.specs.Order.{default_order}
use Rattle.values.specs.declared.LoopedPair.{LoopedPair}
use Rattle.values.specs.declared.Order.{Order}
use Rattle.search.specs.Search.{SearchPromise}
use Rattle.search_host.specs.Laid.{verdict_fields, SearchFromHost}
use Rattle.search.specs.declared.Verdict.{Verdict}
use Rattle.search.specs.declared.Verdict.TheVariants.{Least, NoDecoder}
use Rattle.search.proofs.Files.{search_accepted}
use Rattle.search.proofs.Determined.{found, pair_short}
use Rattle.checker.specs.Check.{check_refusal, CheckedRight, CheckWith, CheckPromise}
use Rattle.checker_host.specs.Laid.{laid_check}
use Rattle.checker.proofs.Determined.{checked_as}
use Rattle.layout.specs.Layout.{with_fields, field_at}
use Rattle.layout.proofs.Reading.{field_at_lem}
use Rattle.layout.proofs.Hosting.{from_host}
use Rattle.theorems.specs.SearchChecked.{letters_in, PairBounds, pair_read, SearchChecked}
use Rattle.theorems.proofs.RoundTrip.{letters_test}
use Rattle.theorems.proofs.HostReads.{first_read, search_found, kind_read}
use Rattle.std.specs.Prelude.{Result, Ok}
use Rattle.coder.specs.declared.refusal.Refusal.{Refusal}
use Rattle.std.specs.Prelude.{Bool}

-- For a "no decoder", the check of that pair with the bytes of its letters, the first ones of the buffer, is not refused and says yes.
search_checked :
    (o : Order) (f : List ℕ) (p : ℕ) (before : List ℕ) (q : LoopedPair) (after : List ℕ) (r : Result Bool Refusal) →
    SearchPromise o f p before (Ok (NoDecoder q)) after →
    CheckPromise f (pair_of q (letters_in q after)) r → r ≡ Ok true
unfolding machine_of check_refusal
search_checked o f p before q after r s c =
    let h = found o f p before (NoDecoder q) after s in
    let v = h.says.first.valid in
    let n = 2 * letters (pair_of q after) in
    let long = length-take-le n after v.held in
    let file = (search_accepted f p _ h.accepted).file in
    let low = file_bounded f (accepted f file) in
    let fine : check_refusal f (pair_of q (take n after)) true ≡ 0 =
    rw (
      file,
      lt-ltb q.s (states_of f) (low q.s (v.start first)),
      lt-ltb q.t (states_of f) (low q.t (v.start second)),
      eq-eqb (length (take n after)) n long,
      letters_test (inputs_of f) (take n after) (valid_letters (setting_of f) (pair_of q after) v),
    ) in
    let g : CheckedRight f (pair_of q (take n after)) r = rw fine at c in
    checked_as f (pair_of q (take n after)) g (judges_yes (valid_cut (setting_of f) (pair_of q after) v))

module _ (o : Order) (f : List ℕ) (p : ℕ) (before : List ℕ) (q : LoopedPair) (after : List ℕ)
    (s : SearchPromise o f p before (Ok (NoDecoder q)) after) where
  file_ok : file_refusal f ≡ 0
  file_ok = (search_accepted f p _ (found o f p before (NoDecoder q) after s).accepted).file

  pair_bounds : PairBounds f q
  pair_bounds =
      let short = pair_short o f p before q after s in
      let n = (accepted f file_ok).entries.limits.states_high in
      let few = mul-le-mul n n in
      record {
        back = short.before;
        forward = short.after;
        few = omega (arith, short.before, short.after);
        bytes = omega (arith, short.before, short.after);
      }

  starts_low : (q.s < states_of f) × (q.t < states_of f)
  unfolding machine_of
  starts_low =
      let v = (found o f p before (NoDecoder q) after s).says.first.valid in
      let low = file_bounded f (accepted f file_ok) in
      (low q.s (v.start first), low q.t (v.start second))

  -- the pair is the one that a host reads from the fields
  pair_read_lem : (result : List ℕ) → q ≡ pair_read (with_fields result (verdict_fields (NoDecoder q)))
  pair_read_lem result =
      let ns = verdict_fields (NoDecoder q) in
      let b = pair_bounds in
      let l = starts_low in
      let n = (accepted f file_ok).entries.limits.states_high in
      let e₁ = field_at_lem result ns 1 (lit< tt) (omega (arith, l.0)) in
      let e₂ = field_at_lem result ns 2 (lit< tt) (omega (arith, l.1)) in
      let e₃ = field_at_lem result ns 3 (lit< tt) (omega (arith, b.few)) in
      let e₄ = field_at_lem result ns 4 (lit< tt) (omega (arith, b.few)) in
      let e₅ = field_at_lem result ns 5 (lit< tt) (omega (arith, b.few)) in
      let e₆ = field_at_lem result ns 6 (lit< tt) (omega (arith, b.few)) in
      rw (e₁, e₂, e₃, e₄, e₅, e₆)

-- a search from C with 1 in field 0: the pair that the host reads is one that the library's own search promises
pair_found :
    (f : List ℕ) (p : ℕ) (before result after given : List ℕ) → SearchFromHost f p before result 0 after given → field_at given 0 ≡ 1 →
    SearchPromise default_order f p before (Ok (NoDecoder (pair_read given))) after
pair_found f p before result after given h e =
    let v = search_found f p before result after given h in
    rw v.fields (go v.verdict v.promised (rw v.fields at e))
  where
    go :
        (v : Verdict) → SearchPromise default_order f p before (Ok v) after → field_at (with_fields result (verdict_fields v)) 0 ≡ 1 →
        SearchPromise default_order f p before (Ok (NoDecoder (pair_read (with_fields result (verdict_fields v))))) after
    go (Least w) s z = let k = kind_read result (Least w) in absurd (omega arith)
    go (NoDecoder q) s z = rw (← pair_read_lem default_order f p before q after s result) s

pub searches_checked : SearchChecked
searches_checked =
    record {
      checked = search_checked;
      bounds = pair_bounds;
      checked_from_C = λ f p before result after given h e result₂ r given₂ long c.
          let q = pair_read given in
          let g = from_host (CheckWith f (pair_of q (letters_in q after))) laid_check long c in
          let y = search_checked default_order f p before q after g.own (pair_found f p before result after given h e) g.promised in
          first_read result₂ (laid_check g.own) 1 [] (ap laid_check y) (lit< tt) g.out;
      bounds_from_C = λ f p before result after given h e.
          pair_bounds default_order f p before (pair_read given) after (pair_found f p before result after given h e);
    }
