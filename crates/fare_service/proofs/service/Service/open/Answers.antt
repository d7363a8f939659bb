use Rattle.std.proofs.Common.{ℕ, ◌≡◌, ◌<◌, ◌+◌, List, [], refl, sym, ◌∙◌, ap, subst, arith}
use Rattle.fare_service.proofs.ShareLemmas.{fresh_share, holding, own_new, books_new, claims_new_at}
use Rattle.fare_service.specs.{Claims.claims_at, Shares.IsFresh, Shares.made_visits_at}
use Rattle.fare_service.specs.{Shares.books_of, inside.ServiceView.AreOpened}
use Rattle.histories.specs.Sums.{sums_of}
use Rattle.shared_books.specs.{Claims.all_claims, Passes.PassView}
use Rattle.fare_service.proofs.service.Service.open.Goals as goal

pub invariant_of-service : goal.invariant_of-service
invariant_of-service g c =
    let P : ℕ → Type 0 = λ n. AreOpened c.args.table n c.in_ok-books.books.items in
    record {
      some_shard = omega (arith, c.in_ok-books.ensures.number);
      few_shards = omega (arith, c.in_ok-books.ensures.number);
      books = subst P (sym c.in_ok-books.ensures.number) c.in_ok-books.ensures.books;
      numbers = c.in_ok-draw.ensures.draw ∙ c.len-number.ensures;
      few_uploads = omega (arith, c.len-number.ensures, c.if-number-gt-MAX_UPLOADS.false);
    }

pub returns : goal.returns
returns g c =
    let passes = c.in_ok-books.ensures.passes in
    let books = c.in_ok-books.books.items in
    let P : List PassView → Type 0 = λ ps. (shard : ℕ) → made_visits_at shard ps ≡ [] in
    let C : List PassView → Type 0 =
    λ ps. (shard : ℕ) → shard < c.args.shards → claims_at shard ps ≡ all_claims in
    let share = holding c.in_ok-draw.drawer c.in_ok-books.passes.items (sums_of c.new-3.result)
    c.new-4.result.items c.new-5.result.run in
    let fresh : IsFresh share = record {
      drawn = ap (λ d. d.drawn) c.in_ok-draw.ensures.drawer;
      done = c.new-4.ensures.items;
      visits = subst P (sym passes) (λ shard. own_new shard books);
      totals = c.new-3.ensures;
      run = ap (λ calls. calls.run) c.new-5.ensures;
    } in
    record {
      table = refl;
      shards = c.in_ok-books.ensures.number;
      uploads = refl;
      share = fresh_share (record {
        table = c.args.table;
        drawing = c.in_ok-draw.draw;
        books = books;
        uploads = g.U.UploadSource.origins c.args.uploads;
      }) share fresh (ap (λ d. d.drawn_from) c.in_ok-draw.ensures.drawer)
          (ap books_of passes ∙ books_new books);
      fresh = fresh;
      claims = record {
        drawing = ap (λ d. 0 + d.claims) c.in_ok-draw.ensures.drawer;
        books = λ shard within. ap (λ n. 0 + n)
            (subst C (sym passes)
            (λ s w. claims_new_at s books (omega (arith, w, c.in_ok-books.ensures.number))) shard
            within);
      };
      fault = tt;
    }
