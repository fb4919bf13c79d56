-- A LANE THAT HOLDS THE OBJECTS OF ITS PENDING WORDS, outside a transaction: had its call begun a
-- transaction with these locks, it would be at work. So it may look at words as a lane at work may.
use Rattle.std.proofs.Common.{◌≡◌, ℕ, zero, suc, ◌+◌, ◌<◌, ◌≤◌, List, [], ◌∷◌, ◌++◌, refl, sym, ap, ◌∙◌, subst, None}
use Rattle.pm_objects.specs.declared.calls.Operation.TheVariants.{Begin}
use Rattle.pm_objects.specs.declared.calls.Want.{Want}
use Rattle.pm_view.specs.Founds.{FindsKnown}
use Rattle.pm_view.specs.Places.{Block, Small, Big, Root, word_of}
use Rattle.pm_view.specs.Steps.Step.{Load, Tell}
use Rattle.pm_view.specs.View.{Told, View}
use Rattle.pm_view.specs.Views.{after}
use Rattle.pm_world.specs.InWorld.{block_bytes}
use Rattle.pm_world.specs.LaneFields.{Standing}
use Rattle.pm_crash.specs.Looked.{word_place, words_in}
use Rattle.pm_call.specs.At.{At}
use Rattle.pm_call.specs.Held.{IsObjectWord, Looks, LooksAt}
use Rattle.pm_call.specs.Locking.{LeadsLocks, locks_with}
use Rattle.pm_call.specs.Publications.{HoldsWords, wants_to_set}
use Rattle.pm_call.specs.Publishing.{words_pending}
use Rattle.pm_call.specs.Waiting.{pending_now}
use Rattle.pm_call.proofs.KeptGrows.{locking}
use Rattle.pm_call.proofs.Looking.{looks_stay}
use Rattle.pm_call.proofs.OpenedCalls.{opened_lanes_may_lock, transactions_may_begin}
use Rattle.pm_call.proofs.TakenLocks.{IsTakenView, is_taken_view}

-- ---- THE VIEW OF ANOTHER CALL that told these operations, and knows the same

abbrev pub calling : List Told → View → View
calling call v = record v { call = call }

module _ (call : List Told) where
  pub place_called : (v : View) (B : Block) (k : ℕ)
      → word_place (calling call v) B k ≡ word_place v B k
  place_called v (Small c i) k = refl
  place_called v (Big f) k = refl
  place_called v Root k = refl

  pub bytes_called : (v : View) (B : Block) → block_bytes (calling call v) B ≡ block_bytes v B
  bytes_called v (Small c i) = refl
  bytes_called v (Big f) = refl
  bytes_called v Root = refl

  pub words_called : (v : View) (B : Block) → words_in (calling call v) B ≡ words_in v B
  words_called v (Small c i) = refl
  words_called v (Big f) = refl
  words_called v Root = refl

  pub word_called : (v : View) (B : Block) (k : ℕ) → IsObjectWord v B k
      → IsObjectWord (calling call v) B k
  word_called v B k w = record {
    found = w.found;
    inside = w.inside;
    within = subst (λ n. k < n) (sym (words_called v B)) w.within;
    kind = w.kind;
  }

  -- looks are the same
  abbrev pub look_called : (v u : View) → LooksAt v u → LooksAt (calling call v) (calling call u)
  look_called v u l =
      let same = place_called v l.block l.index in record {
        block = l.block;
        index = l.index;
        word = word_called v l.block l.index l.word;
        value = l.value;
        small = l.small;
        agrees = subst (λ p. FindsKnown v (word_of v.fixed.shape p) l.value) (sym same) l.agrees;
        fits = λ one. subst (λ n. 64 + l.value ≤ n) (sym (bytes_called v l.block)) (l.fits one);
        then = ap (calling call) l.then
            ∙ ap (λ p. after (calling call v) (Load (word_of v.fixed.shape p) l.value)) (sym same);
      }

  pub looks_called : (n : ℕ) (v u : View) → Looks n v u → Looks n (calling call v) (calling call u)
  unfolding Looks
  looks_called zero v u l = ap (calling call) l
  looks_called (suc n) v u l =
      (calling call l.0, look_called v l.0 l.1, looks_called n l.0 u l.2)

-- looks change claims alone
pub looks_claims : (n : ℕ) (v w : View) → Looks n v w → w ≡ record v { claims = w.claims }
unfolding Looks
looks_claims zero v w l = ap (λ (y : View). record y { claims = w.claims }) l
looks_claims (suc n) v w l =
    looks_claims n l.0 w l.2 ∙ ap (λ (y : View). record y { claims = w.claims }) l.1.then

-- ---- HAD IT BEGUN A TRANSACTION

abbrev pub begin_told : List Want → List Told
begin_told wants = record { operation = Begin wants; reply = None } ∷ []

abbrev pub as_begun : List Want → Standing → Standing
as_begun wants t = record t { view = calling (begin_told wants) t.view; level = 1 }

module _ (t : Standing) (h : HoldsWords t) where
  abbrev s : Standing
  s = h.before

  abbrev pub wants : List Want
  wants = wants_to_set h.before

  abbrev x : View
  x = h.locked

  pub taken : IsTakenView h.before (wants_to_set h.before) h.locked
  taken = is_taken_view s wants x (opened_lanes_may_lock s h.opened) h.takes

  -- its view is the opened one, but for what it took, found and knows
  pub view_is : t.view ≡ locking h.before.view t.view.claims taken.seen
  view_is = looks_claims h.looks x t.view h.looked
      ∙ ap (λ (y : View). record y { claims = t.view.claims }) taken.same

  pub none_told : t.view.call ≡ []
  none_told = ap (λ (y : View). y.call) view_is ∙ h.opened.call

  pub none_recorded : t.view.log.records ≡ []
  none_recorded = ap (λ (y : View). y.log.records) view_is ∙ h.opened.records

  pub none_undrained : t.view.changes ≡ []
  none_undrained = ap (λ (y : View). y.changes) view_is ∙ h.opened.drained

  pub none_entered : t.entries ≡ []
  none_entered = ap (λ (u : Standing). u.entries) h.since ∙ h.opened.entries

  pub same_words : words_pending t ≡ words_pending h.before
  same_words = ap (λ (y : View). (pending_now y).sets) view_is

  -- ---- so it would be at work
  leads : LeadsLocks h.before (Begin (wants_to_set h.before)) (wants_to_set h.before) 1 h.locked
  leads = transactions_may_begin s wants x h.opened h.placed h.few h.takes

  told_alone : after x (Tell (Begin wants) None) ≡ calling (begin_told wants) x
  told_alone = ap (λ (c : List Told). calling (c ++ begin_told wants) x)
      (ap (λ (y : View). y.call) taken.same ∙ h.opened.call)

  begun_then : At (as_begun wants (record s { view = x; locks = locks_with s wants }))
  begun_then = subst (λ (y : View). At (record s { view = y; locks = locks_with s wants; level = 1 }))
      told_alone leads.stands

  pub begun_at : At (as_begun (wants_to_set h.before) t)
  begun_at = subst (λ (u : Standing). At (as_begun wants u)) (sym h.since)
      (looks_stay h.looks
      (as_begun wants (record s { view = x; locks = locks_with s wants })) 1
      (calling (begin_told wants) t.view) begun_then
      (looks_called (begin_told wants) h.looks x t.view h.looked))
