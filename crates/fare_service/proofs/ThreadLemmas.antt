-- What threads promised, one after another.
use Rattle.std.proofs.Common.{subst, arith}
use Rattle.std.proofs.lemmas.List.Elements.{All-head, All-tail}
use Rattle.std.specs.List.{AllZip}
use Rattle.std.specs.Prelude.{ℕ, zero, suc, ◌≡◌, ◌≤◌, List, [], ◌∷◌, length, map, All}
use Rattle.std.specs.{PromisedHandle.KeepsEach, declared.thread.PromisedHandle.PromisedHandle}
use Rattle.std.specs.declared.thread.Promise as Promise

-- each result is what its thread promised
pub kept_zip : {T P X : Type 0} (g : Promise.Ghosts P T) (hs : List (PromisedHandle T P))
    (rs : List T) (n : ℕ) → length hs ≤ n → length rs ≡ length hs → KeepsEach g n hs rs
    → (R : X → T → Type 0) (began : P → X) (Of : P → Type 0) → All (λ h. Of h.promise) hs
    → ((p : P) (r : T) → Of p → g.kept_by p r → R (began p) r)
    → AllZip R (map (λ h. began h.promise) hs) rs
kept_zip g [] [] n le same each R began Of all gives = tt
kept_zip g [] (r ∷ rs) n le same each R began Of all gives = absurd (omega arith)
kept_zip g (h ∷ hs) [] n le same each R began Of all gives = absurd (omega arith)
kept_zip g (h ∷ hs) (r ∷ rs) zero le same each R began Of all gives = absurd (omega arith)
kept_zip {T} {P} {X} g (h ∷ hs) (r ∷ rs) (suc n) le same each R began Of all gives =
    let k = (each 0 r (omega arith)).1 in (
      gives h.promise r (All-head (λ (x : PromisedHandle T P). Of x.promise) h hs all)
          (subst (λ (x : PromisedHandle T P). g.kept_by x.promise r) k.handle_is k.kept),
      kept_zip g hs rs n (omega arith) (omega arith)
          (λ i d lt. let e = each (suc i) d (omega arith) in
          (e.0, record { handle = e.1.handle; handle_is = e.1.handle_is; kept = e.1.kept }))
          R began Of (All-tail (λ (x : PromisedHandle T P). Of x.promise) h hs all) gives,
    )
