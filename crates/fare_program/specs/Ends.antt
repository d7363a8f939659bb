-- How a run ends.
use Rattle.clap.specs.Words.{Text}
use Rattle.fare_program.specs.Causes.{IsWrong, names_read}
use Rattle.fare_program.specs.Options.{Parses, Request, program, request_by}
use Rattle.fare_program.specs.{Program.Does, Usage.is_usable}
use Rattle.frame.specs.{Given.Given, Given.nothing, Outcome.Ends, Outcome.Rule}
use Rattle.frame.specs.Outsides.{LeavesFiles}
use Rattle.frame.specs.declared.outside.Outside.{Outside, TheVariants.Untraced, TheVariants.Unwritten}
use Rattle.program_manners.specs.{Answers.IsPrinted, Answers.IsRejected, Words.AsksForText}
use Rattle.std.specs.Prelude.{◌≡◌, ◌⊎◌, ◌++◌, ℕ, Bool, true, List, [], Option, MatchBool}
use Rattle.std.specs.Prelude.{if◌then◌else◌, is_some}
use Rattle.world.specs.{Origins.Origin, Run.Load, Run.Run, Writes.IsSaid}
use Rattle.world.specs.declared.faults.WriteFault.{WriteFault}

-- A run beside its output: what was written to that, why a write to it failed last, if it remembers
-- one that did, and whether all was flushed.
abbrev pub beside : Run → List ℕ → Option WriteFault → Bool → Run
beside run written end flushed = record run {
  written = written;
  cut = end;
  flushed = if flushed then written else [];
}

-- the ledger of a part is requested: nothing is promised of a prefix of it
abbrev pub IsPartLedger : Request → Type 0
IsPartLedger request = (is_some request.tokens ≡ true) × (request.ledger ≡ true)

-- files were loaded and a text was given, and nothing else
abbrev pub IsTextAlone : Given → Type 0
IsTextAlone given = given ≡ record nothing { loads = given.loads; text = given.text }

-- The text is one that is requested, unless the ledger of a part is.
abbrev pub IsRequested : Request → (List ℕ → Option (List ℕ)) → (List ℕ → Origin) → List Load
    → List ℕ → Type 0
IsRequested request under origin loads text =
    ¬ IsPartLedger request → (success : Bool) × Does request under origin loads text success

-- The run after what stopped it, as far as that is promised: never what was flushed, why a write
-- failed only if that stopped it, and nothing of the output if a sorted file did.
abbrev pub seen_by : Outside → Run → Run → Run
seen_by (Unwritten why) before after = record after { flushed = before.flushed }
seen_by Untraced before after =
    record after { written = before.written; cut = before.cut; flushed = before.flushed }
seen_by why before after = record after { cut = before.cut; flushed = before.flushed }

-- THE rule: what is asked for is given, with status 0, or 1 if an upload is damaged or not finished, as
-- the text says; or a prefix of it, until something stops the run. What is on the disk under a name is
-- given, if it is known, and where the bytes come from that are read whole.
abbrev pub fares_rule : Request → (List ℕ → Option (List ℕ)) → (List ℕ → Origin) → Rule
fares_rule request under origin = record {
  Right = λ given status. IsTextAlone given × (success : Bool)
      × (status ≡ (if success then 0 else 1))
      × Does request under origin given.loads given.text success;
  Partial = λ part. IsTextAlone part × ((part.text ≡ [])
      ⊎ ((rest : List ℕ) × IsRequested request under origin part.loads (part.text ++ rest)));
  Leaves = λ part why before after. (why ≡ Untraced → request.sorted ≡ true)
      × LeavesFiles (IsWrong request under part.loads) (names_read request) why before
      (seen_by why before after);
}

-- How a command line ends. Only usage errors have status 2.
abbrev pub EndsCommand : Request → (List ℕ → Option (List ℕ)) → (List ℕ → Origin) → Run → Run → ℕ
    → Type 0
EndsCommand request under origin old new status = MatchBool (is_usable request)
    (Ends (fares_rule request under origin) old new status) ((status ≡ 2) × IsSaid old new)

-- THE outcome of a run of these words. Only running out of memory, while the words are read, may come
-- before what they ask for. Words that are no command line have status 2, unless they ask for help or
-- the version, which is printed with status 0; else nothing is done but that something is said.
pub record EndsFares (words : List Text) (under : List ℕ → Option (List ℕ)) (origin : List ℕ → Origin)
    (old new : Run) (status : ℕ) : Type 0 where
  pub command : Parses words → ((workers : ℕ) × (shards : ℕ)
      × EndsCommand (request_by workers shards words) under origin old new status)
      ⊎ ((status ≡ 1) × IsSaid old new)
  pub helped : ¬ Parses words → status ≡ 0 → AsksForText program words × IsPrinted old new
  pub refused : ¬ Parses words → (¬ AsksForText program words) → IsRejected old new status
