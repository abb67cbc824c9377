-- The run's promise leaves one outcome: two that meet it for the same arguments are equal, whatever other buffers are lent.
use mathlib.Core.Path.{◌≡◌, sym, ap, ◌∙◌}
use mathlib.Core.Bool.{Bool, true}
use mathlib.Core.List.{List, []}
use Prim.Native.Nat.{ℕ, ◌<◌}
use native.Mathlib.Omega.{arith}
use lib.ListN.{length}
use borrow.Author.Tests.{lt-ltb, le-leb}
use Rattle.coder.specs.File.{states_of, file_refusal}
use Rattle.running.specs.Run.{run_refusal, run_refusal_in, run_end, RunWith, RunPromise}
use Rattle.std.specs.Prelude.{Result, Ok, Err}
use Rattle.coder.specs.declared.refusal.Refusal.{Refusal}
use Rattle.running.specs.declared.RunEnd.{RunEnd}

pub run_determined :
    (f : List ℕ) (s : ℕ) (xs before : List ℕ) (others : Bool) (r r' : Result RunEnd Refusal) (after after' : List ℕ) →
    RunWith f s xs before others r after → RunWith f s xs before others r' after' → (r ≡ r') × (after ≡ after')
run_determined f s xs before others r r' after after' p q = (p.result ∙ sym q.result, p.bytes ∙ sym q.bytes)

-- A run on no letters is never refused for its buffer or its letters: it stays where it starts and writes nothing.
not_refused :
    (f : List ℕ) (s : ℕ) (before : List ℕ) → file_refusal f ≡ 0 → s < states_of f → run_refusal_in f s [] (length before) true ≡ 0
unfolding run_refusal
not_refused f s before e l = rw (e, lt-ltb s (states_of f) l, le-leb 0 (length before) (omega arith))

pub run_empty :
    (f : List ℕ) (s : ℕ) (before : List ℕ) (r : Result RunEnd Refusal) (after : List ℕ) → file_refusal f ≡ 0 →
    s < states_of f → RunPromise f s [] before r after → (r ≡ Ok (run_end 0 s)) × (after ≡ before)
run_empty f s before r after e l p =
    let z = not_refused f s before e l in
    (rw z at p.result, rw z at p.bytes)

-- the numbers of a run's result
module _ {n e n' e' : ℕ} (q : ◌≡◌ {A = Result RunEnd Refusal} (Ok (run_end n e)) (Ok (run_end n' e'))) where
  abbrev count_in : Result RunEnd Refusal → ℕ
  count_in (Ok r) = r.count
  count_in (Err x) = 0

  abbrev end_in : Result RunEnd Refusal → ℕ
  end_in (Ok r) = r.end
  end_in (Err x) = 0

  pub same_count : n ≡ n'
  same_count = ap count_in q

  pub same_end : e ≡ e'
  same_end = ap end_in q
