-- `checked::table` meets its contract: a right byte at each index, with the old bytes after them.
use mathlib.Core.Path.{◌≡◌, refl, sym, ap₂, ◌∙◌}
use mathlib.Core.List.{List}
use Prim.Native.Nat.{ℕ, ◌^◌, ◌≤◌}
use native.Mathlib.Omega.{arith}
use lib.ListN.{length}
use lib.Seq.{length-take-le}
use Rattle.coder.specs.File.{outputs_of}
use Rattle.coder.specs.declared.inner.tables.Coder.{Coder}
use Rattle.coder.specs.Table.{coder_of}
use Rattle.values.specs.Window.{size}
use Rattle.values.specs.declared.Window.{Window}
use Rattle.decoder_refusal.specs.Refusal.{table_size}
use Rattle.decoder_refusal.proofs.Accepting.{table_accepted}
use Rattle.decoder.specs.Table.{TableAsked}
use Rattle.decoder.proofs.Decoding.{CoderOf, sound_of, outputs_of_lem, keys_of, rows_of, starts_of_lem, table_right}
use Rattle.decoder.proofs.inner.checked.table.Goals as goal

-- the coder of the file, and its number of windows
module _ {coder : Coder} {f : List ℕ} {w : Window} {before : List ℕ} (e : coder ≡ coder_of f) (a : TableAsked f w before) where
  coder_is : CoderOf coder f
  coder_is = record { is = e; file = (table_accepted _ _ _ a.accepted).limits.file }

  count_is : {n count : ℕ} → n ≡ size w → count ≡ coder.outputs ^ n → count ≡ table_size (outputs_of f) w
  count_is en ec = ec ∙ ap₂ ◌^◌ (outputs_of_lem coder_is) en

  room : {n count : ℕ} → n ≡ size w → count ≡ coder.outputs ^ n → count ≤ length before
  room en ec = omega (arith, count_is en ec, a.room)

pub from_checked-c-requires : goal.from_checked-c-requires
from_checked-c-requires c = (table_accepted _ _ _ c.requires.accepted).limits.file

pub rows_by_key-rows-requires : goal.rows_by_key-rows-requires
rows_by_key-rows-requires c = keys_of (coder_is c.from_checked-c.ensures c.requires)

pub start_states-starts-requires : goal.start_states-starts-requires
start_states-starts-requires c = sound_of (coder_is c.from_checked-c.ensures c.requires)

pub letters-n-requires : goal.letters-n-requires
letters-n-requires c = (table_accepted _ _ _ c.requires.accepted).limits.small

pub size-count-requires : goal.size-count-requires
size-count-requires c =
    let h = coder_is c.from_checked-c.ensures c.requires in
    ((sound_of h).outputs_low, rw (outputs_of_lem h, c.letters-n.ensures) (table_accepted _ _ _ c.requires.accepted).small)

pub slice_bounds-fill-end : goal.slice_bounds-fill-end
slice_bounds-fill-end c = room c.from_checked-c.ensures c.requires c.letters-n.ensures c.size-count.ensures

pub slice_bounds-fill-end-2 : goal.slice_bounds-fill-end-2
slice_bounds-fill-end-2 c =
    sym (length-take-le c.size-count.result c.args.table.now (room c.from_checked-c.ensures c.requires c.letters-n.ensures c.size-count.ensures))

pub fill-requires : goal.fill-requires
fill-requires c =
    let h = coder_is c.from_checked-c.ensures c.requires in
    let s = sound_of h in
    record {
      coder = _;
      rows = rows_of h c.rows_by_key-rows.ensures;
      next_is = refl;
      outputs_low = s.outputs_low;
      outputs_high = s.outputs_high;
      inside = omega (arith, c.letters-n.ensures);
      size =
          length-take-le c.size-count.result c.args.table.now (room c.from_checked-c.ensures c.requires c.letters-n.ensures c.size-count.ensures)
          ∙ c.size-count.ensures;
    }

pub returns : goal.returns
returns c =
    let h = coder_is c.from_checked-c.ensures c.requires in
    let count = count_is c.from_checked-c.ensures c.requires c.letters-n.ensures c.size-count.ensures in
    record {
      counted = count;
      bytes =
          table_right h c.args.w c.start_states-starts.ensures (outputs_of_lem h) c.letters-n.ensures count
          (room c.from_checked-c.ensures c.requires c.letters-n.ensures c.size-count.ensures)
          (c.fill.ensures _ (rows_of h c.rows_by_key-rows.ensures) refl (starts_of_lem h _ c.start_states-starts.ensures));
    }
