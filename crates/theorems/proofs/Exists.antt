-- For every argument some outcome meets the promise of each call.
use mathlib.Core.Path.{refl}
use Rattle.search.proofs.Exists.{search_exists}
use Rattle.checker.proofs.Determined.{check_exists}
use Rattle.decoder.proofs.Determined.{window_exists, string_exists, table_exists}
use Rattle.search_kinds.proofs.Exists.{search_kinds_exists}
use Rattle.window_kinds.proofs.Determined.{window_kinds_exists}
use Rattle.theorems.specs.Exists.{OutcomesExist}

pub outcomes_exist : OutcomesExist
outcomes_exist =
    record {
      run = λ f s xs before others. (_, _, record { result = refl; bytes = refl });
      search = search_exists;
      check = check_exists;
      window = window_exists;
      string = string_exists;
      table = table_exists;
      search_kinds = search_kinds_exists;
      window_kinds = window_kinds_exists;
      write = λ n i o entries before others. (_, _, record { result = refl; bytes = refl });
      join = λ f g before others. (_, _, record { result = refl; bytes = refl });
      from_C = λ Promise laid result own p. (_, _, record { own = own; promised = p; out = record { number = refl; fields = refl } });
    }
