use Rattle.std.proofs.Common.{◌∙◌, List, [], append-nil, subst, sym, ℕ}
use Rattle.std.proofs.lemmas.Bool.{true≢false}
use Rattle.ledger_check.specs.Verdicts.{IsVerdict}
use Rattle.omny_audit.proofs.check.Check.finish.Goals as goal

pub finish-requires : goal.finish-requires
finish-requires c =
    let (fares, valid, text, written, has) = c.requires.fed in
    (fares, c.in-First.balance, text, valid, (rw c.in-None.is at (rw c.in-First.is at has)).0)

-- a first wrong line was found before
pub returns-in_ok-found-in-Some-clause-found : goal.returns-in_ok-found-in-Some-clause-found
returns-in_ok-found-in-Some-clause-found c = λ fares valid text written has.
    let known = rw c.in-Some.is at (rw c.in-First.is at has) in
    let is = subst (λ (t : List ℕ). IsVerdict fares t c.in-Some.verdict) (append-nil text)
    (known.0.0 []) in
    rw c.in-First.is (rw known.1 (c.in_ok-found-in-Some.ensures.found fares text valid is
    (λ legal. absurd (true≢false (sym legal ∙ known.0.1)))))

pub returns-in_ok-found-in-Some-clause-decided : goal.returns-in_ok-found-in-Some-clause-decided
returns-in_ok-found-in-Some-clause-decided c = λ is.
    c.in_ok-found-in-Some.ensures.legal
    ∙ (rw c.in-Some.is at (rw c.in-First.is at c.requires.fed.4)).0.1

pub returns-in_ok-found-in-None-clause-found : goal.returns-in_ok-found-in-None-clause-found
returns-in_ok-found-in-None-clause-found c = λ fares valid text written has.
    let known = rw c.in-None.is at (rw c.in-First.is at has) in
    let balance = c.in-First.balance in
    let ended = c.in_ok-verdict-in-None.ensures in
    rw c.in-First.is (rw known.1 (c.in_ok-found-in-None.ensures.found fares text valid
    (ended.verdict fares balance text valid known.0) (ended.legal fares balance text valid known.0)))

pub returns-in_ok-found-in-All-clause-found : goal.returns-in_ok-found-in-All-clause-found
returns-in_ok-found-in-All-clause-found c = λ fares valid text written has.
    rw c.in-All.is (c.in_ok-found-in-All.ensures fares valid text written (rw c.in-All.is at has))

pub full_finding-requires : goal.full_finding-requires
full_finding-requires c =
    let (fares, valid, text, written, has) = c.requires.fed in
    (fares, valid, text, written, rw c.in-All.is at has)
