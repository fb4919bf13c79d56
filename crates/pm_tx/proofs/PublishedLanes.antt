-- WHAT A PUBLISH CAME TO at a lane.
use Rattle.std.proofs.Common.{◌≡◌, ℕ, zero, suc, ◌+◌, ◌<◌, ◌≤◌, inl, Bool, true, false, nat_lt, Contains, List, [], ◌∷◌, ◌++◌, length, refl, sym, ap, ◌∙◌, subst, arith, None, Some, Result, Ok, Err}
use Rattle.std.specs.List.{AllByRecursion, list_any}
use Rattle.std.specs.Option.{option_map_or}
use Rattle.std.proofs.lemmas.Bool.{both_ways, lt-ltb, or_left, or_right}
use Rattle.pm_memory.specs.Runs.{Made}
use Rattle.pm_model.specs.Pending.{SetWord}
use Rattle.pm_model.specs.Refusals.{first_of, max_entries}
use Rattle.pm_objects.specs.declared.calls.Operation.TheVariants.{Publish}
use Rattle.pm_objects.specs.declared.history.Value.TheVariants.{Refused}
use Rattle.pm_objects.specs.declared.refusal.Refusal.{Refusal}
use Rattle.pm_objects.specs.declared.refusal.Refusal.TheVariants as refusal
use Rattle.pm_view.specs.Steps.{Step}
use Rattle.pm_view.specs.Steps.Step.{Tell}
use Rattle.pm_view.specs.View.{View}
use Rattle.pm_view.specs.Views.{after_all}
use Rattle.pm_world.specs.LaneFields.{Fields, Standing, Works, at_work, fields_of, moved}
use Rattle.pm_world.specs.Lawful.{Allowed}
use Rattle.pm_world.specs.declared.lane.Lane.{Lane}
use Rattle.pm_plan.specs.Plans.{Ready, one}
use Rattle.pm_call.specs.At.{At}
use Rattle.pm_call.specs.Did.{Checked, Found, GaveUp, IsAt, IsAtSo, IsRefused, unseen, work_refusal}
use Rattle.pm_call.specs.Entering.{HasPlace, entries_of}
use Rattle.pm_call.specs.GivenUp.{GivesUp, GivesUpFor, IsAtBut, Refuses}
use Rattle.pm_call.specs.Publishing.{CanPublish, IsWordSized, is_past_end, is_unheld, words_entered, words_pending}
use Rattle.pm_call.proofs.Calls.{after_so, no_stop}
use Rattle.pm_call.proofs.PublishedWords.{leads_publish, none_past_end, none_unheld, pending_words_are_looked_at, publish_refusals}
use Rattle.pm_tx.specs.Publishing.{AreChecked, PassesEnd, Published, PublishedAs, PublishedSo, WordsChecked, WordsPublished}
use Rattle.pm_tx.proofs.CheckedWords.{many_words, words_listed}
use Rattle.pm_call.proofs.EnteredWords.{entries_are, have_places}

any_of : (f : SetWord → Bool) (words : List SetWord) (a : SetWord) → Contains words a → f a ≡ true
    → list_any f words ≡ true
any_of f [] a (k, low, e) holds = absurd (omega (arith, low))
any_of f (b ∷ words) a (zero, low, e) holds = or_left (f b) (list_any f words) (ap f e ∙ holds)
any_of f (b ∷ words) a (suc k, low, e) holds =
    or_right (f b) (list_any f words) (any_of f words a (k, omega (arith, low), e) holds)

-- ---- THE CHECK: why it is refused, or that it may be done

module _ (t : Standing) (stands : At t) where
  abbrev words : List SetWord
  words = words_pending t

  abbrev many : ℕ
  many = length t.entries + length words

  -- by what its three tests came to
  refused_by : (unheld past full : Bool) (r : Refusal) → AllByRecursion (IsWordSized t) words
      → list_any (is_unheld t) words ≡ unheld → list_any (is_past_end t) words ≡ past
      → nat_lt max_entries (many + 1) ≡ full
      → first_of ((refusal.NotLocked, unheld) ∷ (refusal.OutOfRange, past)
      ∷ (refusal.ActionsFull, full) ∷ []) ≡ Some r
      → IsRefused t Publish r
  unfolding first_of
  refused_by unheld past full r sized one two three first = record {
    looks = pending_words_are_looked_at t stands sized;
    first = publish_refusals t stands ∙ ((λ i. first_of (
        (refusal.NotLocked, one i) ∷ (refusal.OutOfRange, two i)
        ∷ (refusal.ActionsFull, three i) ∷ []))
        ∙ first);
  }

  refused_words : (r : Refusal) → AreChecked t words (Err r) → IsRefused t Publish r
  unfolding first_of
  refused_words refusal.NotLocked c =
      refused_by true (list_any (is_past_end t) words) (nat_lt max_entries (many + 1))
      refusal.NotLocked c.0 c.1 refl refl refl
  refused_words refusal.OutOfRange c =
      refused_by false true (nat_lt max_entries (many + 1)) refusal.OutOfRange c.0 c.1.0
      (any_of (is_past_end t) words c.1.1.0 c.1.1.1 (past c.1.1.0 c.1.1.2)) refl refl
    where
      past : (a : SetWord) → PassesEnd t a → is_past_end t a ≡ true
      past a p = ap (λ o. nat_lt (option_map_or (λ n. n) o 0) (a.off + 8)) p.sized
          ∙ lt-ltb p.size (a.off + 8) p.past
  refused_words r c = absurd c.1

  refused_full : AreChecked t words (Ok tt) → 64 ≤ many → IsRefused t Publish refusal.ActionsFull
  unfolding first_of
  refused_full c high = refused_by false false true refusal.ActionsFull c.0
      (none_unheld t words c.1) (none_past_end t words c.1) (lt-ltb max_entries (many + 1) (omega (arith, high))) refl

-- what a check of a publish has in view
abbrev pub Publishes : Standing → Unit {0} → Type 0
Publishes s done = CanPublish s

module _ {M : Type 0} (at : M → View → Type 0) (old new : Lane M) where
  -- so many entries there are to be
  entries_then : (t : Standing) → Works at new t → At t
      → length new.entries.items + length new.pending.items
      ≡ length t.entries + length (words_pending t)
  entries_then t works is =
      let e = ap (λ (f : Fields). length f.entries) works.fields in
      let p = many_words at new t works is in
      omega (arith, e, p)

  by_words : (result came : Result (Unit {0}) Refusal) → WordsChecked at old new words_pending came
      → ((t : Standing) → AreChecked t (words_pending t) came → Works at new t → At t
      → Found at new Publishes Publish result t)
      → Checked at old new Publishes Publish result
  unfolding WordsChecked Checked
  by_words result came checked so s works is =
      after_so s (λ t. AreChecked t (words_pending t) came × Works at new t × At t)
      (Found at new Publishes Publish result) (λ t c. so t c.0 c.1 c.2) (checked s works is)

  pub check_err : (r : Refusal) → WordsChecked at old new words_pending (Err r)
      → Checked at old new Publishes Publish (Err r)
  check_err r checked =
      by_words (Err r) (Err r) checked (λ t c works is. (refused_words t is r c, works, is))

  pub check_ok : length new.entries.items + length new.pending.items < 64
      → WordsChecked at old new words_pending (Ok tt)
      → Checked at old new Publishes Publish (Ok tt)
  check_ok low checked = by_words (Ok tt) (Ok tt) checked (λ t c works is. (
    record { each = c.1; room = let e = entries_then t works is in omega (arith, e, low) },
    works,
    is,
  ))

  pub check_full : 64 ≤ length new.entries.items + length new.pending.items
      → WordsChecked at old new words_pending (Ok tt)
      → Checked at old new Publishes Publish (Err refusal.ActionsFull)
  check_full high checked = by_words (Err refusal.ActionsFull) (Ok tt) checked (λ t c works is. (
    refused_full t is c (let e = entries_then t works is in omega (arith, e, high)),
    works,
    is,
  ))

-- ---- THE WORDS ARE PUBLISHED

module _ {M : Type 0} (at : M → View → Type 0) (old : Lane M) where
  pub publish_places : IsAtSo at old CanPublish → AllByRecursion HasPlace old.pending.items
  publish_places is = subst (AllByRecursion HasPlace)
      (sym (words_listed at old is.standing is.works is.stands))
      (have_places is.standing is.stands (words_pending is.standing) is.holds.each)

  pub published_nothing : (r : Refusal) → Some r ≡ work_refusal old → Published at old old (Err r)
  unfolding Published
  published_nothing r e = subst (λ o. PublishedSo o at old old (Err r)) e (refl, refl)

  module _ (may : View → Step → Type 0) (grants : (v : View) (s : Step) → Allowed v s → may v s)
      (new : Lane M) where
    abbrev entered : Fields
    entered = record (fields_of old) {
      entries = old.entries.items ++ entries_of old.pending.items;
      pending = [];
    }

    fields_entered : (s : Standing) → Works at old s → At s → entered ≡ at_work (words_entered s)
    fields_entered s works is =
        (λ i. record (works.fields i) {
          entries = (works.fields i).entries ++ entries_of (words_listed at old s works is i);
          pending = [];
        })
        ∙ ap (λ es. record (at_work s) { entries = s.entries ++ es; pending = [] })
        (entries_are (words_pending s))

    pub words_published : Made may (at old.memory) (at new.memory) (Tell Publish None)
        → fields_of new ≡ record (fields_of old) {
          entries = old.entries.items ++ entries_of old.pending.items;
          pending = [];
        } → WordsPublished at old new
    unfolding WordsPublished Ready one after_all
    words_published made same s works is can =
        let l = leads_publish s is can in record {
          unrefused = l.unrefused;
          ready = (l.allowed, tt, tt);
          works = record {
            memory = (made s.view works.memory (grants s.view (Tell Publish None) l.allowed)).0;
            fields = same ∙ fields_entered s works is;
          };
          stands = l.stands;
        }

-- ---- THE PUBLISH, from its check on

module _ {M : Type 0} (at : M → View → Type 0) (old mid new : Lane M) where
  by_check : (result came : Result (Unit {0}) Refusal) → None ≡ work_refusal old
      → Checked at old mid Publishes Publish came
      → ((t : Standing) → Found at mid Publishes Publish came t → PublishedAs at new result t)
      → Published at old new result
  unfolding Published Checked
  by_check result came none checked so = subst (λ o. PublishedSo o at old new result) none
      (λ s works is. after_so s (Found at mid Publishes Publish came) (PublishedAs at new result)
      so (checked s works is))

  pub published_ok : None ≡ work_refusal old → Checked at old mid Publishes Publish (Ok tt)
      → WordsPublished at mid new → Published at old new (Ok tt)
  unfolding WordsPublished
  published_ok none checked published =
      by_check (Ok tt) (Ok tt) none checked (λ t f. published t f.1 f.2 f.0)

  gives : (t : Standing) (r : Refusal) → IsRefused t Publish r
      → GivesUp t Publish (Some (Refused r))
  gives t r refused = inl (record {
    inside = refl;
    plain = refl;
    seen = unseen;
    root = None;
    looks = refused.looks;
    refusal = r;
    first = refused.first;
    replied = refl;
    busy = λ e. absurd (both_ways false refl e);
    missing = λ off e. absurd (both_ways false refl e);
  })

  pub refusal_stands : (r : Refusal) → IsAt at old → Checked at old mid Publishes Publish (Err r)
      → IsAtBut at mid (λ s. GivesUp s Publish (Some (Refused r)))
  unfolding Checked
  refusal_stands r is checked =
      let t = checked is.standing is.works is.stands in record {
        standing = moved is.standing t.view;
        locks = is.standing.locks;
        works = t.holds.1;
        stands = t.holds.2;
        holds = gives (moved is.standing t.view) r t.holds.0;
      }

  gave : (t : Standing) (why answer : Refusal) → IsRefused t Publish why
      → GivesUpFor at new Publish why answer t → PublishedAs at new (Err answer) t
  gave t why refusal.Stopped refused g =
      record { refusal = why; number = g.0; refused = refused; cut = g.1 }
  gave t why answer refused g = subst (λ (r : Refusal). GaveUp at new t Publish r) (sym g.0) (record {
    refused = refused;
    number = g.1.number;
    ready = g.1.ready;
    sees = g.1.sees;
    over = g.1.over;
  })

  came : (t : Standing) (why answer : Refusal) → Refuses at mid new Publish why answer
      → IsRefused t Publish why × Works at mid t × At t → PublishedAs at new (Err answer) t
  unfolding Refuses
  came t refusal.Stopped answer refuses f = absurd (no_stop t Publish f.2 f.0)
  came t why answer refuses f =
      gave t why answer f.0 (refuses t t.locks f.1 f.2 (gives t why f.0))

  pub published_err : (why answer : Refusal) → None ≡ work_refusal old
      → Checked at old mid Publishes Publish (Err why) → Refuses at mid new Publish why answer
      → Published at old new (Err answer)
  published_err why answer none checked refuses =
      by_check (Err answer) (Err why) none checked (λ t f. came t why answer refuses f)
