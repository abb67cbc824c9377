-- What a run that is not refused was given and what it left, of the library's own call and from C.
use mathlib.Core.Path.{◌≡◌, refl, sym, ap, ◌∙◌}
use mathlib.Core.Bool.{true}
use mathlib.Core.List.{List, [], ◌∷◌, ◌++◌}
use Prim.Native.Nat.{ℕ, ◌<◌}
use native.Mathlib.Omega.{arith}
use lib.ListN.{length, take, drop, replicate}
use lib.Dec.{lit<}
use lib.Seq.{take_at}
use Rattle.mealy.specs.Machine.{outs, end, Letters}
use Rattle.mealy.specs.Setting.{any_state}
use Rattle.mealy.proofs.RunParts.{length_outs, end_start}
use Rattle.coder.specs.File.{states_of, inputs_of, file_refusal, machine_of}
use Rattle.coder.proofs.Accepted.{accepted}
use Rattle.coder.proofs.Tables.{total}
use Rattle.running.proofs.Determined.{same_count, same_end}
use Rattle.running.specs.Run.{run_refusal_in, RunWith, RunPromise}
use Rattle.running.proofs.Running.{run_accepted}
use Rattle.running_host.specs.Laid.{run_fields, laid_run}
use Rattle.running_host.proofs.Hosting.{run_others}
use Rattle.layout.specs.Layout.{with_fields}
use Rattle.layout.proofs.Reading.{field_at_lem}
use Rattle.layout.proofs.Hosting.{no_refusal, answered_host}
use Rattle.theorems.specs.RoundTrip.{FieldHolds}
use Rattle.theorems.proofs.HostReads.{first_read, second_read}
use Rattle.theorems_joined.specs.InRow.{RunDone, RunDoneFromC}
use Rattle.std.specs.Prelude.{Ok}
use Rattle.running.specs.Run.{run_end}

pub record RanOn (f : List ℕ) (s : ℕ) (xs before : List ℕ) (n e : ℕ) (after : List ℕ) : Type 0 where
  pub file : file_refusal f ≡ 0
  pub state : s < states_of f
  pub letters : Letters (inputs_of f) xs
  pub count : n ≡ length xs
  pub ends : e ≡ end (machine_of f) s xs
  pub bytes : after ≡ outs (machine_of f) s xs ++ drop (length xs) before

-- the letters that it wrote
pub wrote :
    {f : List ℕ} {s : ℕ} {xs before : List ℕ} {n e : ℕ} {after : List ℕ} → RanOn f s xs before n e after →
    take n after ≡ outs (machine_of f) s xs
wrote {f} {s} {xs} {before} {n} a =
    rw a.bytes (take_at (outs (machine_of f) s xs) (drop (length xs) before) n (length_outs (machine_of f) s xs ∙ sym a.count))

module _ (f : List ℕ) (s : ℕ) (xs before : List ℕ) (n e : ℕ) (after : List ℕ) where
  ran_on : run_refusal_in f s xs (length before) true ≡ 0 → RunPromise f s xs before (Ok (run_end n e)) after → RanOn f s xs before n e after
  ran_on z p =
      let a = run_accepted f s xs _ z in
      let r : Ok (run_end n e) ≡ Ok (run_end (length xs) (end (machine_of f) s xs)) = rw z at p.result in
      record {
        file = a.file;
        state = a.state;
        letters = a.letters;
        count = same_count r;
        ends = same_end r;
        bytes = rw z at p.bytes;
      }

  pub run_done : RunDone f s xs before n e after → RanOn f s xs before n e after
  run_done p = ran_on (no_refusal run_fields (run_refusal_in f s xs (length before) true) _ _ p.result refl) p

end_small :
    (f : List ℕ) (s : ℕ) (xs : List ℕ) → file_refusal f ≡ 0 → s < states_of f → Letters (inputs_of f) xs → FieldHolds (end (machine_of f) s xs)
unfolding machine_of
end_small f s xs e l k =
    let a = accepted f e in
    omega (arith, a.entries.limits.states_high, end_start (any_state (machine_of f)) (total f a) s xs l k)

pub run_done_from_C :
    (f : List ℕ) (s : ℕ) (xs before : List ℕ) (n e : ℕ) (after : List ℕ) → RunDoneFromC f s xs before n e after →
    RanOn f s xs before n e after
run_done_from_C f s xs before n e after p =
    let h =
    answered_host (λ others own. RunWith f s xs before others own after) laid_run (λ others own. run_others f s xs before after others own)
    refl p.call in
    let z = no_refusal run_fields (run_refusal_in f s xs (length before) true) _ _ h.promised.result
    (sym h.out.number) in
    let a = run_accepted f s xs _ z in
    let d = ap laid_run (rw z at h.promised.result) in
    record {
      file = a.file;
      state = a.state;
      letters = a.letters;
      count = p.count ∙ (first_read p.result (laid_run h.own) (length xs) _ d p.few h.out).1;
      ends =
          p.ends ∙
          second_read p.result (laid_run h.own) (length xs) _ [] d (end_small f s xs a.file a.state a.letters) h.out;
      bytes = rw z at h.promised.bytes;
    }

-- what the library's own call gives, a host gets with a result buffer of 64 bytes
pub run_from_own :
    (f : List ℕ) (s : ℕ) (xs before : List ℕ) (n e : ℕ) (after : List ℕ) → FieldHolds (length xs) → RunDone f s xs before n e after →
    RunDoneFromC f s xs before n e after
run_from_own f s xs before n e after few p =
    let a = run_done f s xs before n e after p in
    let last = end_small f s xs a.file a.state a.letters in
    record {
      result = replicate 64 0;
      result' = with_fields (replicate 64 0) (n ∷ e ∷ []);
      call = record { own = Ok (run_end n e); promised = p; out = record { number = refl; fields = refl } };
      few = few;
      count = sym (field_at_lem (replicate 64 0) (n ∷ e ∷ []) 0 (lit< tt) (omega (arith, a.count)));
      ends = sym (field_at_lem (replicate 64 0) (n ∷ e ∷ []) 1 (lit< tt) (omega (arith, a.ends)));
    }
