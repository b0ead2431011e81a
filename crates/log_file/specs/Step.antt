-- A call by name is the call that `Calls` speaks of; it may answer and leave what that call may.
use Rattle.std.specs.Prelude.{ℕ, ◌≡◌, List, [], ◌∷◌, Result, IfOk}
use Rattle.entry.specs.declared.Refusal.{Refusal}
use Rattle.entry.specs.Refusal.{answer_of}
use Rattle.log_file.specs.declared.LogFileWriter.{LogFileWriter}
use Rattle.log_file.specs.declared.calls.Call.{Call}
use Rattle.log_file.specs.declared.calls.Call.TheVariants.{BeginEntry, BeginChunk, Write, Finish, Commit, Rollback, Recycle, Flush, Synchronize, Seek}
use Rattle.log_file.specs.declared.calls.Reply.{Reply}
use Rattle.log_file.specs.declared.calls.Reply.TheVariants.{Done, Taken, Chunk, Entry, Place}
use Rattle.log_file.specs.Calls as calls
use Rattle.log_file.specs.Promises.{chunk_values, entry_values, Allows}

abbrev pub call_of : Call → calls.Call
call_of (BeginEntry id) = calls.begin_entry id
call_of (BeginChunk n) = calls.begin_chunk n
call_of (Write offered) = calls.write offered.now
call_of Finish = calls.finish
call_of Commit = calls.commit
call_of Rollback = calls.rollback
call_of (Recycle id) = calls.recycle id
call_of Flush = calls.flush
call_of (Synchronize t) = calls.synchronize t
call_of (Seek from) = calls.landing from

-- the values that an accepted call reports
abbrev pub reply_values : Reply → List ℕ
reply_values Done = []
reply_values (Taken count) = count ∷ []
reply_values (Chunk c) = chunk_values c
reply_values (Entry e) = entry_values e
reply_values (Place p) = p ∷ []

-- and of what kind they are: a count and a place are one number each
pub data Kind : Type 0 where
  nothing a_count a_chunk an_entry a_place : Kind

abbrev pub asked : calls.Call → Kind
asked (calls.begin_entry id) = nothing
asked (calls.begin_chunk n) = nothing
asked (calls.write offered) = a_count
asked calls.finish = a_chunk
asked calls.commit = an_entry
asked calls.rollback = nothing
asked (calls.recycle id) = nothing
asked calls.flush = nothing
asked (calls.synchronize t) = nothing
asked (calls.landing from) = a_place

abbrev pub given : Reply → Kind
given Done = nothing
given (Taken count) = a_count
given (Chunk c) = a_chunk
given (Entry e) = an_entry
given (Place p) = a_place

-- the call's answer, and of the call's kind
abbrev pub StepAllows : LogFileWriter → (image staging : List ℕ) → Call → Result Reply Refusal → LogFileWriter → (image' staging' : List ℕ) → Type 0
StepAllows w image staging call r w' image' staging' =
    Allows w image staging (call_of call) (answer_of reply_values r) w' image' staging' × IfOk r (λ reply. given reply ≡ asked (call_of call))
