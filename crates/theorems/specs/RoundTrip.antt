-- Demand 2, last sentence: what run, search and string decoder give together, for the library's own calls and for a host in C.
use Rattle.std.specs.Prelude.{◌≡◌, List, ℕ, ◌+◌, ◌≤◌, ◌<◌, length, get_or, take}
use Rattle.mealy.specs.Machine.{end, Letters}
use Rattle.mealy.specs.Reachable.{Reachable}
use Rattle.coder.specs.File.{file_refusal, inputs_of, machine_of}
use Rattle.running.specs.Run.{RunPromise}
use Rattle.values.specs.Window.{window, size}
use Rattle.values.specs.declared.Window.{Window}
use Rattle.values.specs.declared.Order.{Order}
use Rattle.search.specs.Search.{SearchPromise}
use Rattle.search.specs.declared.Verdict.TheVariants.{Least}
use Rattle.decoder_refusal.specs.Refusal.{places}
use Rattle.decoder.specs.Places.{StringPromise}
use Rattle.layout.specs.Layout.{result_bytes, field_at}
use Rattle.running_host.specs.Laid.{RunFromHost}
use Rattle.search_host.specs.Laid.{SearchFromHost}
use Rattle.decoder_host.specs.Laid.{StringFromHost}
use Rattle.std.specs.Prelude.{Result, Ok}
use Rattle.coder.specs.declared.refusal.Refusal.{Refusal}
use Rattle.running.specs.declared.RunEnd.{RunEnd}
use Rattle.running.specs.Run.{run_end}

-- The letters xs can be coded from state s: the file is accepted, the state is reachable (document 02, 5/13, last sentence), and the
-- letters are the coder's.
pub record Coded (f : List ℕ) (s : ℕ) (xs : List ℕ) : Type 0 where
  pub file : file_refusal f ≡ 0
  pub start : Reachable (machine_of f) s
  pub letters : Letters (inputs_of f) xs

-- The decoded bytes are the input letters, each at its place: those with a full window and as many letters ahead of it as the settle count
-- says (document 02, 6/13, the sentence on strings).
abbrev pub Back : List ℕ → Window → List ℕ → Type 0
Back xs w decoded = (k : ℕ) → w.settle ≤ k → k + size w ≤ length xs → get_or decoded k 0 ≡ get_or xs (k + w.before) 0

-- What the three calls give, w being the window that the search reports: neither run nor decoder is refused, and the letters are
-- back.
pub record RoundTrip (f : List ℕ) (s : ℕ) (xs : List ℕ) (w : Window) (r₁ : Result RunEnd Refusal) (r₃ : Result ℕ Refusal) (decoded : List ℕ) : Type 0 where
  pub ran : r₁ ≡ Ok (run_end (length xs) (end (machine_of f) s xs))
  pub counted : r₃ ≡ Ok (places (length xs) w)
  pub back : Back xs w decoded

-- For each outcome that the three calls promise, with room in the lent buffers: the run writes to after₁, the search, in whatever order and
-- with whatever settle count, reports w, and the decoder, given w and the letters that the run wrote, writes to after₃.
abbrev pub LettersComeBack : Type 0
LettersComeBack =
    (f : List ℕ) (s : ℕ) (xs : List ℕ) → Coded f s xs →
    (before₁ : List ℕ) (r₁ : Result RunEnd Refusal) (after₁ : List ℕ) → length xs ≤ length before₁ → RunPromise f s xs before₁ r₁ after₁ →
    (o : Order) (p : ℕ) (before₂ : List ℕ) (w : Window) (after₂ : List ℕ) → SearchPromise o f p before₂ (Ok (Least w)) after₂ →
    (before₃ : List ℕ) (r₃ : Result ℕ Refusal) (after₃ : List ℕ) → places (length xs) w ≤ length before₃ →
    StringPromise f w (take (length xs) after₁) before₃ r₃ after₃ →
    RoundTrip f s xs w r₁ r₃ after₃

-- ---- for a host in C

-- The same with what the host reads from the result buffers of run and decoder: both calls return 0, and the fields say how many
-- letters were sent and decoded, and in which state the run ended.
pub record HostRoundTrip (f : List ℕ) (s : ℕ) (xs : List ℕ) (w : Window) (r₁ : ℕ) (result₁ : List ℕ) (r₃ : ℕ)
    (result₃ decoded : List ℕ) : Type 0 where
  pub ran : r₁ ≡ 0
  pub sent : field_at result₁ 0 ≡ length xs
  pub ended : field_at result₁ 1 ≡ end (machine_of f) s xs
  pub done : r₃ ≡ 0
  pub counted : field_at result₃ 0 ≡ places (length xs) w
  pub back : Back xs w decoded

-- the window that a host reads from the result of a search with its settle count p
abbrev pub window_read : List ℕ → ℕ → Window
window_read result p = window (field_at result 1) (field_at result 2) p

-- a number that a field holds
abbrev pub FieldHolds : ℕ → Type 0
FieldHolds n = n < 18446744073709551616

-- For each outcome that the three calls from C promise, with room in all lent buffers: the search returned 0 with a window, and the
-- decoder is given the window and the number of sent letters as the host read them.
abbrev pub LettersComeBackFromC : Type 0
LettersComeBackFromC =
    (f : List ℕ) (s : ℕ) (xs : List ℕ) → Coded f s xs → FieldHolds (length xs) →
    (before₁ result₁ : List ℕ) (r₁ : ℕ) (after₁ result₁' : List ℕ) → length xs ≤ length before₁ → result_bytes ≤ length result₁ →
    RunFromHost f s xs before₁ result₁ r₁ after₁ result₁' →
    (p : ℕ) (before₂ result₂ after₂ result₂' : List ℕ) → SearchFromHost f p before₂ result₂ 0 after₂ result₂' → field_at result₂' 0 ≡ 0 →
    (before₃ result₃ : List ℕ) (r₃ : ℕ) (after₃ result₃' : List ℕ) →
    places (length xs) (window_read result₂' p) ≤ length before₃ → result_bytes ≤ length result₃ →
    StringFromHost f (window_read result₂' p) (take (field_at result₁' 0) after₁) before₃ result₃ r₃ after₃ result₃' →
    HostRoundTrip f s xs (window_read result₂' p) r₁ result₁' r₃ result₃' after₃
