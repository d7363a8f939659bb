-- A run, posted tap by tap.
use Rattle.std.proofs.Common.{◌≡◌, ℕ, ◌+◌, ◌<◌, ◌≤◌, List, [], ◌∷◌, ◌++◌, length, map, refl, sym}
use Rattle.std.proofs.Common.{ap, subst, ◌∙◌, arith}
use Rattle.account_rule.specs.declared.reply.Reply.{Reply}
use Rattle.histories.specs.Entry.{IsEntryOf, reply_of, AreEntriesOf}
use Rattle.histories.specs.{History.IsLegal, Replies.RepliesView, declared.entry.Entry.Entry}
use Rattle.shard_book.specs.{Book.Book, Book.PostsTap, Book.with_entries, Visits.PostsRun}
use Rattle.shard_book.specs.{declared.run_end.RunEnd.TheVariants.Whole, inside.Visits.PostsTaps}
use Rattle.std.proofs.lemmas.List.{length-append, map-append, append_assoc, append-nil}
use Rattle.std.specs.List.{AllByRecursion}
use Rattle.tap_views.specs.{Layout.Tap, Shards.ShardRun, Shards.run_taps, Shards.IsShardTap}

-- the first taps of the run are posted, and the others are left
pub record IsPosting (run : ShardRun) (done left : List Tap) (posted : ℕ) (book after : Book)
    (replies replied : RepliesView) : Type 0 where
  pub whole : done ++ left ≡ run_taps run
  pub own : AllByRecursion (IsShardTap run.shard run.shards) left
  pub count : posted ≡ length done
  pub posts : PostsTaps done book after replies replied
  pub legal : IsLegal after.table after.entries

-- as many entries as taps
entries-length : (taps : List Tap) (visit : List Entry) → AreEntriesOf taps visit
    → length visit ≡ length taps
entries-length [] [] are = refl
entries-length [] (e ∷ visit) are = elim are [ ]
entries-length (t ∷ taps) [] are = elim are [ ]
entries-length (t ∷ taps) (e ∷ visit) are = let rest = entries-length taps visit are.1 in
    omega arith

entries-push : (taps : List Tap) (visit : List Entry) (tap : Tap) (entry : Entry)
    → AreEntriesOf taps visit → IsEntryOf tap entry
    → AreEntriesOf (taps ++ tap ∷ []) (visit ++ entry ∷ [])
entries-push [] [] tap entry are is = (is, tt)
entries-push [] (e ∷ visit) tap entry are is = elim are [ ]
entries-push (t ∷ taps) [] tap entry are is = elim are [ ]
entries-push (t ∷ taps) (e ∷ visit) tap entry are is =
    (are.0, entries-push taps visit tap entry are.1 is)

-- nothing is posted yet
posts-none : (book : Book) (replies : RepliesView) → PostsTaps [] book book replies replies
posts-none book replies = record {
  visit = [];
  of_taps = tt;
  appended = λ i. record {
    table = book.table;
    shard = book.shard;
    shards = book.shards;
    entries =
        sym (append-nil book.entries) i;
  };
  items = sym (append-nil replies.items);
  spare = omega arith;
}

-- a run without taps is posted whole
pub posts-empty : (run : ShardRun) (book : Book) (replies : RepliesView) → run_taps run ≡ []
    → PostsRun (run_taps run) Whole book book replies replies
posts-empty run book replies empty =
    let none : PostsTaps [] book book replies replies = posts-none book replies in
    rw empty (record {
      visit = none.visit;
      of_run = none.of_taps;
      appended = none.appended;
      items =
          none.items;
      spare = none.spare;
    })

-- one tap more is posted
posts-push : (taps : List Tap) (tap : Tap) (book after next : Book)
    (replies replied more : RepliesView) (reply : Reply) → PostsTaps taps book after replies replied
    → PostsTap after next tap reply → more.items ≡ replied.items ++ reply ∷ []
    → more.spare + 1 ≡ replied.spare → PostsTaps (taps ++ tap ∷ []) book next replies more
posts-push taps tap book after next replies replied more reply posts post items spare = record {
  visit = posts.visit ++ post.entry ∷ [];
  of_taps = entries-push taps posts.visit tap post.entry posts.of_taps post.of_tap;
  appended =
      post.appended
      ∙ ap (λ (b : Book). with_entries b (post.entry ∷ [])) posts.appended
      ∙ (λ i. record {
        table = book.table;
        shard = book.shard;
        shards = book.shards;
        entries =
            append_assoc book.entries posts.visit (post.entry ∷ []) i;
      });
  items =
      items
      ∙ ap (λ (rs : List Reply). rs ++ reply ∷ []) posts.items
      ∙ append_assoc replies.items (map reply_of posts.visit) (reply ∷ [])
      ∙ ap (λ (r : Reply). replies.items ++ (map reply_of posts.visit ++ r ∷ [])) (sym post.replied)
      ∙ ap (λ (rs : List Reply). replies.items ++ rs)
      (sym (map-append reply_of posts.visit (post.entry ∷ [])));
  spare =
      let before : replied.spare + length posts.visit ≡ replies.spare = posts.spare in
      omega (arith, length-append posts.visit (post.entry ∷ []));
}

-- at the start no tap is posted and all are left
pub posting-none : (run : ShardRun) (left : List Tap) (book : Book) (replies : RepliesView)
    → left ≡ run_taps run → AllByRecursion (IsShardTap run.shard run.shards) left
    → IsLegal book.table book.entries → IsPosting run [] left 0 book book replies replies
posting-none run left book replies whole own legal =
    record {
      whole = whole;
      own = own;
      count = refl;
      posts = posts-none book replies;
      legal =
          legal;
    }

-- there is room while a tap is left
pub posting-room : {run : ShardRun} {done left rest : List Tap} {tap : Tap} {posted : ℕ}
    {book after : Book} {replies replied : RepliesView}
    → IsPosting run done left posted book after replies replied → left ≡ tap ∷ rest
    → length (run_taps run) ≤ replies.spare → 0 < replied.spare
posting-room {run} {done} {left} {rest} {tap} {posted} {book} {after} {replies} {replied} posting
    step room =
    let whole : done ++ tap ∷ rest ≡ run_taps run =
    ap (λ (ts : List Tap). done ++ ts) (sym step) ∙ posting.whole in
    let before : replied.spare + length posting.posts.visit ≡ replies.spare = posting.posts.spare in
    let long : length posting.posts.visit ≡ length done =
    entries-length done posting.posts.visit posting.posts.of_taps in
    omega (arith, ap (λ (ts : List Tap). length ts) whole, length-append done (tap ∷ rest))

-- one tap more
pub posting-push : {run : ShardRun} {done left rest : List Tap} {tap : Tap} {posted : ℕ}
    {book after next : Book} {replies replied more : RepliesView} {reply : Reply}
    → IsPosting run done left posted book after replies replied → left ≡ tap ∷ rest
    → PostsTap after next tap reply → IsLegal next.table next.entries
    → more.items ≡ replied.items ++ reply ∷ [] → more.spare + 1 ≡ replied.spare
    → IsPosting run (done ++ tap ∷ []) rest (posted + 1) book next replies more
posting-push {run} {done} {left} {rest} {tap} {posted} {book} {after} {next} {replies} {replied}
    {more} {reply} posting step post legal items spare =
    let own : AllByRecursion (IsShardTap run.shard run.shards) (tap ∷ rest) =
    subst (λ (ts : List Tap). AllByRecursion (IsShardTap run.shard run.shards) ts) step
    posting.own in
    let count : posted ≡ length done = posting.count in
    record {
      whole = append_assoc done (tap ∷ []) rest ∙ ap (λ (ts : List Tap). done ++ ts) (sym step)
          ∙ posting.whole;
      own = own.1;
      count = omega (arith, length-append done (tap ∷ []));
      posts = posts-push done tap book after next replies replied more reply posting.posts post
          items spare;
      legal = legal;
    }
