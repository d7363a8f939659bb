-- Corrections that are written: what was written of them, and what is noted.
use Rattle.std.proofs.Common.{◌≡◌, ◌∙◌, ◌⊎◌, ◌++◌, ◌∷◌, [], Bool, Err, None, Ok, Option, Result}
use Rattle.std.proofs.Common.{Some, ℕ, List, ap, append-nil, append_assoc, arith, inl, inr, refl}
use Rattle.std.proofs.Common.{subst, sym}
use Rattle.frame.specs.declared.outside.Outside.{Outside}
use Rattle.ledger_changes.proofs.Walking.{started}
use Rattle.ledger_changes.specs.Given.{HasStarted, HasGiven, IsAllGiven, IsStarted, IsGivenAfter}
use Rattle.ledger_changes.specs.{Given.new_calls, Given.old_calls, Tokens.corrections_of}
use Rattle.ledger_changes.specs.{Tokens.head_of, declared.changes.Corrections.Corrections}
use Rattle.ledger_changes.specs.declared.fault.Bill.TheVariants.{New, Old}
use Rattle.std.specs.Prelude.{Contains, Vec}
use Rattle.std.specs.declared.alloc.Global.{Global}
use Rattle.tool_tasks.proofs.Streaming.{all_read}
use Rattle.tool_tasks.specs.Corrections.{AreRead, IsPart, IsWrongLedger, corrections_stream}
use Rattle.tool_tasks.specs.{Streams.CanStop, declared.stops.Halt.Halt}
use Rattle.tool_tasks.specs.inside.Corrections.{IsNoted, IsStop, IsWritten}
use Rattle.tool_tasks.specs.inside.Streams.{IsStreamed}
use Rattle.tool_words.specs.Request.{CorrectionsRequest}
use Rattle.world.specs.Run.{Calls, Run}
use Rattle.frame.specs.declared.outside.Outside.TheVariants as outside

-- ---- what was started
pub started_part : (by_token : Bool) (text piece front rest : List ℕ) (old new : Calls)
    → piece ≡ front ++ rest → HasStarted by_token (text ++ piece) old new
    → HasStarted by_token (text ++ front) old new
started_part by_token text piece front rest old new is has o n can_o can_n =
    by (has o n can_o can_n)
  where
    by : IsStarted by_token (text ++ piece) o n → IsStarted by_token (text ++ front) o n
    by (inl (more, removed, whole)) = inl (
      rest ++ more,
      removed,
      whole ∙ ap (λ (t : List ℕ). Some (t, removed))
          (ap (λ (p : List ℕ). (text ++ p) ++ more) is
          ∙ ap (λ (t : List ℕ). t ++ more) (sym (append_assoc text front rest))
          ∙ append_assoc (text ++ front) rest more),
    )
    by (inr wrong) = inr wrong

pub all_started : (by_token : Bool) (old new : Calls) (text : List ℕ) (removed : ℕ)
    → IsAllGiven by_token old new text removed → HasStarted by_token text old new
all_started by_token old new text removed all o n can_o can_n = inl (
  [],
  removed,
  ap (λ (x : List ℕ). corrections_of by_token x n) (all_read old o all.old_whole can_o)
      ∙ ap (corrections_of by_token old.reading.bytes) (all_read new n all.new_whole can_n)
      ∙ all.text_is ∙ ap (λ (t : List ℕ). Some (t, removed)) (sym (append-nil text)),
)

pub after_started : (c : Corrections) (by_token : Bool) (end : Option ℕ) (text : List ℕ)
    → IsGivenAfter c by_token end text → HasStarted by_token text (old_calls c) (new_calls c)
after_started c by_token None text has =
    started c by_token text (old_calls c) (new_calls c) has (λ whole can. can) (λ whole can. can)
after_started c by_token (Some removed) text all =
    all_started by_token (old_calls c) (new_calls c) text removed all

-- the head line was given
pub given_head : (c : Corrections) (is by_token : Bool) → is ≡ by_token
    → HasGiven c is (head_of is) → HasGiven c by_token (head_of by_token)
given_head c is by_token same has = subst (λ (b : Bool). HasGiven c b (head_of b)) same has

-- ---- how a run ends
module _ (request : CorrectionsRequest) (calls : List Calls) (old new : Calls)
    (read : AreRead request calls old new) where
  can_stop : (why : Outside) → IsStop old new why
      → CanStop (IsWrongLedger request calls) (request.old ∷ request.new ∷ []) calls why
  can_stop (outside.Unread why) (Old, unread) = (
    request.old,
    (0, omega arith, refl),
    old,
    subst (λ cs. Contains cs old) (sym read.all) (0, omega arith, refl),
    unread ∙ ap (λ (name : Option (List ℕ)). name ∷ []) read.old_name,
  )
  can_stop (outside.Unread why) (New, unread) = (
    request.new,
    (1, omega arith, refl),
    new,
    subst (λ cs. Contains cs new) (sym read.all) (1, omega arith, refl),
    unread ∙ ap (λ (name : Option (List ℕ)). name ∷ []) read.new_name,
  )
  can_stop (outside.Unwritten why) is = tt
  can_stop (outside.Unmade why is_partial) bad = absurd bad
  can_stop outside.Wrong (bill, number, why, first) = (old, new, read, bill, number, why, first)
  can_stop outside.Untraced bad = absurd bad
  can_stop outside.NoMemory is = tt

  part_by : (text : List ℕ) → (text ≡ []) ⊎ HasStarted request.is_by_token text old new
      → (text ≡ []) ⊎ IsPart request calls text
  part_by text (inl none) = inl none
  part_by text (inr has) = inr (old, new, read, has)

  pub corrected : (run run' : Run) (written : Result ℕ Halt) (result : Result (Vec ℕ Global) Halt)
      → IsWritten request.is_by_token old new run run' written → IsNoted written result
      → IsStreamed (corrections_stream request calls) run run' result
  corrected run run' (Ok removed) (Ok note) (text, is, all) noted = (
    text,
    is,
    inr (old, new, read, all_started request.is_by_token old new text removed all),
    (old, new, read, removed, all, noted),
  )
  corrected run run' (Ok removed) (Err halt) (text, is, all) none = (
    text,
    inr (old, new, read, all_started request.is_by_token old new text removed all),
    rw none tt,
    rw none is,
  )
  corrected run run' (Err first) (Ok note) written bad = absurd bad
  corrected run run' (Err first) (Err halt) (text, part, stop, left) same =
      (text, part_by text part, rw same (can_stop first.0 stop), rw same left)
