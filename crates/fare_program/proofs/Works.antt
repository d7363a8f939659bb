-- What a run comes to that loads files and writes a text.
use Rattle.std.proofs.Common.{◌≡◌, ◌∙◌, ◌++◌, [], ℕ, List, Bool, Err, None, Ok, Option, Result, ap}
use Rattle.std.proofs.Common.{subst, true}
use Rattle.fare_program.proofs.Causes.{late_of, leaves_by, leaves_same}
use Rattle.fare_program.proofs.Ends.{stops_by}
use Rattle.fare_program.specs.{Causes.IsWrong, Causes.names_read, Ends.IsPartLedger}
use Rattle.fare_program.specs.{Options.Request, Program.Does}
use Rattle.fare_program.specs.declared.fault.Fault.{Fault, TheVariants.File, TheVariants.Late}
use Rattle.fare_program.specs.declared.fault.Fault.TheVariants.{Write}
use Rattle.fare_program.specs.inside.Ends.{Aim, Gives, GivesIf, Works}
use Rattle.fare_program.specs.inside.Fault.{CanStop, outside_of}
use Rattle.frame.specs.{Outsides.LeavesFiles, declared.outside.Outside.TheVariants.Unread}
use Rattle.program_manners.specs.declared.loading.FileFault.{FileFault}
use Rattle.std.specs.{Io.KnownBytes.Keeps, Prelude.Contains, Prelude.IfErr}
use Rattle.world.proofs.Laws.{more_loads}
use Rattle.world.specs.{Loads.IsRefused, Origins.Origin, Origins.with_loads, Run.Load, Run.Run}

-- all that is asked for
abbrev pub whole : Request → (List ℕ → Option (List ℕ)) → (List ℕ → Origin) → Aim
whole request known origin = record {
  Given = ¬ IsPartLedger request;
  Right = Does request known origin;
  Wrong = IsWrong request known;
  Late = request.sorted ≡ true;
  names = names_read request;
}

-- What is asked for after these loads is a part of what is asked for.
pub record IsPartOf (A B : Aim) (before : List Load) : Type 0 where
  pub given : B.Given → A.Given
  pub right : (loads : List Load) (text : List ℕ) (success : Bool) → A.Right loads text success
      → B.Right (before ++ loads) text success
  pub wrong : (loads : List Load) → A.Wrong loads → B.Wrong (before ++ loads)
  pub late : A.Late → B.Late
  pub named : (name : Option (List ℕ)) → Contains A.names name → Contains B.names name

pub works_after : (A B : Aim) (before : List Load) (old mid new : Run) (out out' : Option (List ℕ))
    (r : Result Bool Fault) → mid ≡ with_loads old before → IsPartOf A B before
    → Works A mid new out out' r → Works B old new out out' r
works_after A B before old mid new out out' (Ok success) is part (loads, all, text, right, written) = (
  before ++ loads,
  all ∙ ap (λ (r : Run). with_loads r loads) is ∙ more_loads old before loads,
  text,
  part.right loads text success right,
  written,
)
works_after A B before old mid new out out' (Err fault) is part (loads, stopped, stops) = (
  before ++ loads,
  record {
    late = λ untraced. part.late (stopped.late untraced);
    left = leaves_by _ _ _ _ _ _ (part.wrong loads) part.named (outside_of None fault)
        (subst (λ (r : Run). LeavesFiles (A.Wrong loads) A.names (outside_of None fault) r new)
        (ap (λ (r : Run). with_loads r loads) is ∙ more_loads old before loads) stopped.left);
  },
  stops_by _ _ out out' fault
      (λ text right given. let it = right (part.given given) in
      (it.0, part.right loads text it.0 it.1)) stops,
)

-- after these loads nothing more was loaded
pub works_then : (B : Aim) (Given : Type 0) (Right : List ℕ → Bool → Type 0) (Wrong : Type 0)
    (before : List Load) (old new : Run) (out out' : Option (List ℕ)) (r : Result Bool Fault)
    → new ≡ with_loads old before → (B.Given → Given)
    → ((text : List ℕ) (success : Bool) → Right text success → B.Right before text success)
    → (Wrong → B.Wrong before) → GivesIf Given Right out out' r → IfErr r (CanStop Wrong B.Late)
    → Works B old new out out' r
works_then B Given Right Wrong before old new out out' (Ok success) is given same wrong
    (text, right, written) can = (before, is, text, same text success right, written)
works_then B Given Right Wrong before old new out out' (Err fault) is given same wrong stops can = (
  before,
  record {
    late = late_of _ _ (outside_of None fault) can;
    left = leaves_same _ _ B.names _ _ _ (outside_of None fault) can wrong is;
  },
  stops_by _ _ out out' fault
      (λ text right more. let it = right (given more) in (it.0, same text it.0 it.1)) stops,
)

-- a file of these names was not loaded, after these loads
pub works_unread : (A : Aim) (names : List (Option (List ℕ))) (before : List Load) (old mid new : Run)
    (out out' : Option (List ℕ)) (file : FileFault) → mid ≡ with_loads old before
    → ((name : Option (List ℕ)) → Contains names name → Contains A.names name)
    → (loads : List Load) × LeavesFiles ⊥ names (Unread file.fault) (with_loads mid loads) new
    → Keeps out out' → Works A old new out out' (Err (File file))
works_unread A names before old mid new out out' file is named (loads, (name, within, left)) kept = (
  before ++ loads,
  record {
    late = λ untraced. absurd (cc);
    left = (
      name,
      named name within,
      subst (λ (r : Run). IsRefused r new name file.fault)
          (ap (λ (r : Run). with_loads r loads) is ∙ more_loads old before loads) left,
    );
  },
  kept,
)

-- what was charged ahead, if no write failed, and a right text was started if one did
pub works_within : (Right : List Load → List ℕ → Bool → Type 0) (old new : Run)
    (out out' : Option (List ℕ)) (r : Result Bool Fault) → IfErr r (λ fault. fault ≡ Write)
    → Gives (λ text success. (loads : List Load) × (new ≡ with_loads old loads)
    × Right loads text success) out out' r
    → Works (record { Given = Unit {0}; Right = Right; Wrong = λ _. ⊥; Late = ⊥; names = [] }) old new
    out out' r
works_within Right old new out out' (Ok success) write (text, (loads, is, right), written) =
    (loads, is, text, right, written)
works_within Right old new out out' (Err Write) write (text, right, started) =
    let (success, (loads, is, it)) = right tt in (
      loads,
      record { late = λ untraced. absurd (cc); left = is },
      (text, (λ given. (success, it)), started),
    )
works_within Right old new out out' (Err (Late why)) write gives = absurd (cc)
works_within Right old new out out' (Err _) write gives = absurd (cc)
