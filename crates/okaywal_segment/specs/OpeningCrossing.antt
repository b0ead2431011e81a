-- Opening a writer across the boundary: what `okw_writer_open` returns, and leaves in every slice that it is lent.
use Rattle.std.specs.Prelude.{ℕ, ◌≡◌, cond, List, [], ltb}
use Rattle.lists.specs.Lay.{lay}
use Rattle.lists.specs.Answers.{refused, number_of}
use Rattle.log_file.specs.State.{machine}
use Rattle.log_file.specs.Calls.{Called, after}
use Rattle.log_file.specs.Opening.{terms, blank, opened}
use Rattle.okaywal_segment.specs.WriterWords.{writer_words, last_from}
use Rattle.okaywal_segment.specs.Steps.{enough}

-- the arguments beside state and buffers
pub record Request : Type 0 where
  pub version_info : List ℕ
  pub id : ℕ
  pub known : ℕ
  pub last : ℕ
  pub validated : ℕ
  pub file_length : ℕ
  pub preallocate : ℕ

abbrev pub request : List ℕ → (id known last validated file_length preallocate : ℕ) → Request
request version_info id known last validated file_length preallocate =
    record {
      version_info = version_info;
      id = id;
      known = known;
      last = last;
      validated = validated;
      file_length = file_length;
      preallocate = preallocate;
    }

-- what an opening returns, and leaves in its slices
pub record Start : Type 0 where
  pub number : ℕ
  pub state : List ℕ
  pub info : List ℕ
  pub image : List ℕ
  pub staging : List ℕ

abbrev pub start : ℕ → (state info image staging : List ℕ) → Start
start n state info image staging = record { number = n; state = state; info = info; image = image; staging = staging }

-- accepted or refused, it writes every state word and the version info anew
abbrev pub started_by : (state info : List ℕ) → Called → Start
started_by state info r =
    start (number_of r.answer) (lay state 0 (writer_words r.machine'.writer)) (lay info 0 r.machine'.writer.info) r.machine'.image r.machine'.staging

-- last_known above 1: refused as an opening is, with a state of zeros
unfoldable pub opening_of : Request → (image staging : List ℕ) → Called
opening_of q image staging =
    cond
    (ltb 1 q.known)
    (after (refused 12) (machine blank image staging))
    (opened (terms q.id (last_from q.known q.last) q.version_info q.preallocate) q.validated q.file_length image staging)

-- state or info too short: 12, and nothing is stored anywhere
unfoldable pub started : (state info image staging : List ℕ) → Request → Start
started state info image staging q = cond (enough 0 state info []) (started_by state info (opening_of q image staging)) (start 12 state info image staging)

abbrev pub OpenAllows : (state info image staging : List ℕ) → Request → (number : ℕ) (state' info' image' staging' : List ℕ) → Type 0
OpenAllows state info image staging q number state' info' image' staging' = start number state' info' image' staging' ≡ started state info image staging q
