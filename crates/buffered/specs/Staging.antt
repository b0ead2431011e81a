-- Staging (document 01, "Staging, per write"): the image, the staging in front of it, and the numbers that go with them. Every definition says each
-- byte of both buffers. The laws are in `StagingLaws`.
use Rattle.std.specs.Prelude.{ℕ, zero, suc, ◌+◌, ◌-◌, ◌≤◌, min, max, cond, List, [], ◌∷◌, ◌++◌, length, take, drop, leb, ltb}
use Rattle.lists.specs.Lay.{lay}
use Rattle.buffered.specs.declared.Buffered.{Buffered}

pub record Store : Type 0 where
  pub image : List ℕ
  pub staging : List ℕ
  pub file : Buffered

abbrev pub store : List ℕ → List ℕ → Buffered → Store
store image staging file = record { image = image; staging = staging; file = file }

-- the logical segment: image bytes below the file position, then the staged bytes; the logical position is its length
abbrev pub logical : Store → List ℕ
logical s = take s.file.position s.image ++ take s.file.staged s.staging

abbrev pub logical_position : Buffered → ℕ
logical_position f = f.position + f.staged

-- ---- the steps

-- staged bytes go to the image; the file position moves by their number; the file length is at least the file position
unfoldable pub flushed : Store → Store
flushed s =
    store (lay s.image s.file.position (take s.file.staged s.staging)) s.staging (record {
      length = max s.file.length (s.file.position + s.file.staged);
      position = s.file.position + s.file.staged;
      staged = 0;
      synchronized = s.file.synchronized;
    })

-- bytes go straight into the image
unfoldable pub direct : Store → List ℕ → Store
direct s xs =
    store (lay s.image s.file.position xs) s.staging (record {
      length = max s.file.length (s.file.position + length xs);
      position = s.file.position + length xs;
      staged = s.file.staged;
      synchronized = s.file.synchronized;
    })

-- bytes go behind the staged ones
unfoldable pub staged : Store → List ℕ → Store
staged s xs =
    store s.image (lay s.staging s.file.staged xs) (record {
      length = s.file.length;
      position = s.file.position;
      staged = s.file.staged + length xs;
      synchronized = s.file.synchronized;
    })

-- ---- one write, until no bytes are left: a full staging is flushed; if the rest is longer than the whole staging, flush and store the rest
-- straight into the image; otherwise copy what fits

unfoldable pub emptied : Store → Store
emptied s = cond (leb (length s.staging) s.file.staged) (flushed s) s

abbrev pub room : Store → ℕ
room s = length s.staging - s.file.staged

-- at most `fuel` rounds
unfoldable pub rounds : (fuel : ℕ) → Store → List ℕ → Store
rounds zero s xs = s
rounds (suc fuel) s [] = s
rounds (suc fuel) s (x ∷ xs) =
    let t = emptied s in
    cond (ltb (length t.staging) (length (x ∷ xs)))
    (direct (flushed t) (x ∷ xs))
    (rounds fuel (staged t (take (room t) (x ∷ xs))) (drop (room t) (x ∷ xs)))

unfoldable pub written : Store → List ℕ → Store
written s xs = rounds (length xs) s xs

-- one write after another
unfoldable pub written_all : Store → List (List ℕ) → Store
written_all s [] = s
written_all s (xs ∷ writes) = written_all (written s xs) writes

-- ---- going back: the logical position becomes at most n, and so does the synchronized number; no byte changes

abbrev pub numbers_back : Buffered → ℕ → Buffered
numbers_back f n =
    record {
      length = f.length;
      position = min f.position n;
      staged = min f.staged (n - f.position);
      synchronized = min f.synchronized n;
    }

unfoldable pub back_to : Store → ℕ → Store
back_to s n = store s.image s.staging (numbers_back s.file n)

-- ---- sync to t: nothing if the synchronized number ≥ t; otherwise flush if file position < t, then the synchronized number becomes the file position

abbrev pub marked : Store → Store
marked s =
    store s.image s.staging
    (record { length = s.file.length; position = s.file.position; staged = s.file.staged; synchronized = s.file.position })

unfoldable pub synchronized : Store → ℕ → Store
synchronized s t = cond (leb t s.file.synchronized) s (marked (cond (ltb s.file.position t) (flushed s) s))

-- ---- what the code of this crate asks of its callers: n bytes more fit the image, and the staged bytes their staging

pub record Room (s : Store) (n : ℕ) : Type 0 where
  pub image : s.file.position + s.file.staged + n ≤ length s.image
  pub staging : s.file.staged ≤ length s.staging
