-- Reader and writer of coder files together (document 02, 3/13): reading what was written gives back the counts and the entries, writing
-- what was read gives the file, and each coder within the limits that names its whole alphabet (7/13) has one file. Over the promises of
-- the calls.
use Rattle.std.specs.Prelude.{◌≡◌, List, ℕ, ◌≤◌, length, take}
use Rattle.mealy.specs.Machine.{Letters}
use Rattle.coder.specs.File.{states_of, inputs_of, outputs_of, entries_of, file_refusal}
use Rattle.reader.specs.Read.{header_of, part_of, EntriesPart}
use Rattle.coder.specs.Accepted.{IsCoder}
use Rattle.reader.specs.declared.Header.{Header}
use Rattle.placing.specs.Placed.{with_front}
use Rattle.writer.specs.Write.{WroteFile, WritePromise}
use Rattle.layout.specs.Layout.{result_bytes, field_at}
use Rattle.writer_host.specs.Laid.{WriteFromHost}
use Rattle.std.specs.Prelude.{Result, Ok}
use Rattle.coder.specs.declared.refusal.Refusal.{Refusal}
use Rattle.reader.specs.Read.{header}

-- What the reader's two calls give for a file, wherever that lies: h, and the entries in `part`.
pub record Read (f : List ℕ) (h : Result Header Refusal) (part : List ℕ) : Type 0 where
  pub file : ℕ × ℕ
  pub place : ℕ × ℕ
  pub counts : h ≡ header_of f
  pub entries : EntriesPart f file part place

-- ---- what was written, read

-- The file f is accepted, and whatever the reader gives for it is these counts and these entries.
pub record ReadsBack (n i o : ℕ) (entries f : List ℕ) : Type 0 where
  pub accepted : file_refusal f ≡ 0
  pub back : (h : Result Header Refusal) (part : List ℕ) → Read f h part → (h ≡ Ok (header n i o)) × (part ≡ entries)

-- For each outcome of the writer that is not a refusal: m bytes were written, and these are the file.
abbrev pub WrittenRead : Type 0
WrittenRead =
    (n i o : ℕ) (entries before : List ℕ) (m : ℕ) (after : List ℕ) → WritePromise n i o entries before (Ok m) after →
    ReadsBack n i o entries (take m after)

-- From C: the call returned 0, and the host reads the number of bytes from field 0.
abbrev pub WrittenReadFromC : Type 0
WrittenReadFromC =
    (n i o : ℕ) (entries before result after result' : List ℕ) → WriteFromHost n i o entries before result 0 after result' →
    ReadsBack n i o entries (take (field_at result' 0) after)

-- ---- what was read, written

-- The reader gave h and `part` for the file f: h are counts, and with room in the buffer each outcome of the writer on these counts and
-- entries is the file again.
pub record WritesBack (f : List ℕ) (h : Result Header Refusal) (part : List ℕ) : Type 0 where
  pub states : ℕ
  pub inputs : ℕ
  pub outputs : ℕ
  pub counts : h ≡ Ok (header states inputs outputs)
  pub back :
      (before : List ℕ) (r : Result ℕ Refusal) (after : List ℕ) → length f ≤ length before →
      WritePromise states inputs outputs part before r after → WroteFile f before r after

-- For each accepted file, which is a list of bytes.
abbrev pub ReadWritten : Type 0
ReadWritten =
    (f : List ℕ) → Letters 256 f → file_refusal f ≡ 0 → (h : Result Header Refusal) (part : List ℕ) → Read f h part → WritesBack f h part

-- From C: bytes 3 to 5 and those from byte 6 on are handed to the writer.
abbrev pub ReadWrittenFromC : Type 0
ReadWrittenFromC =
    (f : List ℕ) → Letters 256 f → file_refusal f ≡ 0 → (before result : List ℕ) (r : ℕ) (after result' : List ℕ) →
    length f ≤ length before → result_bytes ≤ length result →
    WriteFromHost (states_of f) (inputs_of f) (outputs_of f) (entries_of f) before result r after result' →
    (r ≡ 0) × (field_at result' 0 ≡ length f) × (after ≡ with_front f before)

-- ---- one file

-- f is a file of the coder: bytes for which the reader gives these counts and these entries
pub record IsFileOf (n i o : ℕ) (entries f : List ℕ) : Type 0 where
  pub bytes : Letters 256 f
  pub counts : header_of f ≡ Ok (header n i o)
  pub part : part_of f ≡ entries

-- There is one, and no other; with room in the buffer it is what the writer writes.
pub record OneFile (n i o : ℕ) (entries : List ℕ) : Type 0 where
  pub file : List ℕ
  pub is : IsFileOf n i o entries file
  pub only : (f : List ℕ) → IsFileOf n i o entries f → f ≡ file
  pub written :
      (before : List ℕ) (r : Result ℕ Refusal) (after : List ℕ) → length file ≤ length before →
      WritePromise n i o entries before r after → WroteFile file before r after

-- For each coder within the limits whose entries name its whole alphabet.
abbrev pub EachOneFile : Type 0
EachOneFile = (n i o : ℕ) (entries : List ℕ) → IsCoder n i o entries → OneFile n i o entries

-- ---- all of it

pub record ReaderAndWriter : Type 0 where
  pub written_read : WrittenRead
  pub written_read_from_C : WrittenReadFromC
  pub read_written : ReadWritten
  pub read_written_from_C : ReadWrittenFromC
  pub each_one_file : EachOneFile
