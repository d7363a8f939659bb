-- A line names a tap exactly if each of its columns is read.
use Rattle.std.proofs.Common.{◌≡◌, ◌∙◌, ◌^◌, ℕ, Some, None, true, false, sym, subst, arith, rules}
use Rattle.std.proofs.Common.{tests}
use Rattle.fare_texts.specs.Moments.{IsMomentText}
use Rattle.ledger_check.proofs.FrontLemmas.{columns_same}
use Rattle.line_forms.specs.FormLaws.{number_is, number_sound}
use Rattle.std.proofs.lemmas.{Bool.false≢true, Option.same_Some}
use Rattle.ledger_check.proofs.exact.exact_tap.Goals as goal

pub returns-in_default : goal.returns-in_default
returns-in_default c = λ token validator moment rest is.
    let none = sym (rw c.in_default.is at c.front_of.ensures) ∙ is.columns in absurd cc

pub returns-in_default-exact_token : goal.returns-in_default-exact_token
returns-in_default-exact_token c = λ token validator moment rest is.
    let same = columns_same c.args.line.now _ _ _ _ _ _ _ _ _ _ c.in-Some.ensures.1 is.columns in
    (rw c.in_default-exact_token.is at c.exact_token.ensures) token is.fits same.token_is

pub returns-in_default-read_moment : goal.returns-in_default-read_moment
returns-in_default-read_moment c = λ token validator moment rest is.
    let same = columns_same c.args.line.now _ _ _ _ _ _ _ _ _ _ c.in-Some.ensures.1 is.columns in
    let none : None ≡ Some moment =
    (rw c.in_default-read_moment.is at c.read_moment.ensures.found) moment is.early
    (subst (IsMomentText moment) (sym same.moment_is) is.is) in
    absurd (cc)

pub returns-in_default-number_32_of : goal.returns-in_default-number_32_of
returns-in_default-number_32_of c = λ token validator moment rest is.
    let same = columns_same c.args.line.now _ _ _ _ _ _ _ _ _ _ c.in-Some.ensures.1 is.columns in
    let none : None ≡ Some validator =
    (rw c.in_default-number_32_of.is at c.number_32_of.ensures)
    ∙ number_is (2 ^ 32) validator c.in-Some.front.validator.now (omega (arith, is.small))
    (is.small, same.validator_is) in
    absurd (cc)

pub returns-then-not-is_exact : goal.returns-then-not-is_exact
returns-then-not-is_exact c = λ token validator moment rest is.
    let same = columns_same c.args.line.now _ _ _ _ _ _ _ _ _ _ c.in-Some.ensures.1 is.columns in
    let text = subst (IsMomentText moment) (sym same.moment_is) is.is in
    let read : Some c.in-Some-read_moment.moment ≡ Some moment =
    c.in-Some-read_moment.ensures.found moment is.early text in
    let number = same_Some c.in-Some-read_moment.moment moment read in
    let yes : c.in_ok-is_exact.is_exact ≡ true =
    c.in_ok-is_exact.ensures.1
    (subst (λ (m : ℕ). IsMomentText m c.in-Some.front.moment.now) (sym number) text) in
    let no : c.in_ok-is_exact.is_exact ≡ false = first_of (cc, search (rules, tests)) in
    absurd (false≢true (sym no ∙ yes))

pub returns : goal.returns
returns c =
    let (number, columns) = c.in-Some.ensures in
    let token = c.in-Some-exact_token.ensures in
    let front = c.in-Some.front in
    let validator = number_sound (2 ^ 32) front.validator.now _
    (sym c.number_32_of.ensures ∙ c.in-Some-number_32_of.is) in
    let yes : c.in_ok-is_exact.is_exact ≡ true = first_of (cc, search (rules, tests)) in
    record {
      fits = token.0;
      small = validator.0;
      early = c.in-Some-read_moment.ensures.small;
      number = number;
      moment_text = front.moment.now;
      is = c.in_ok-is_exact.ensures.0 yes;
      columns = rw (token.1, validator.1) at columns;
      front = c.requires.line.0;
      ends = c.requires.line.1;
      short = c.requires.short;
    }
