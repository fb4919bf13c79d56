-- AN INCREMENT: the sum is put into the number's words, it is told, and the lane is at work again.
use Rattle.std.proofs.Common.{◌≡◌, ℕ, ◌+◌, ◌%◌, ◌/◌, ◌^◌, true, false, ◌==◌, not, inl, inr, List, [], ◌∷◌, length, refl, sym, ap, ◌∙◌, subst, arith, Some, None, Result, Ok, Err}
use Rattle.std.specs.Int.{bytes_low_first, from_le_bytes, to_le_bytes, w64}
use Rattle.std.proofs.lemmas.Bool.{and_from, and_parts, eq-eqb}
use Rattle.pm_memory.specs.Runs.{Made}
use Rattle.pm_memory.specs.declared.lane_mem.Stopped.{Stopped}
use Rattle.pm_model.specs.Inside.{incremented}
use Rattle.pm_model.specs.Items.{edited, number_bytes, number_of, put_into}
use Rattle.pm_model.specs.Refusals.{first_of}
use Rattle.pm_objects.specs.declared.calls.Operation.TheVariants.{Increment}
use Rattle.pm_objects.specs.declared.history.Value.TheVariants.{Number}
use Rattle.pm_objects.specs.declared.ids.Oid.{Oid}
use Rattle.pm_objects.specs.declared.refusal.Refusal.{Refusal}
use Rattle.pm_objects.specs.declared.refusal.Refusal.TheVariants as refusal
use Rattle.pm_view.specs.Steps.{Step}
use Rattle.pm_view.specs.Steps.Step.{Tell}
use Rattle.pm_view.specs.View.{View}
use Rattle.pm_world.specs.LaneFields.{Standing, Works, moved}
use Rattle.pm_world.specs.Lawful.{Allowed}
use Rattle.pm_world.specs.declared.lane.Lane.{Lane}
use Rattle.pm_crash.specs.Looked.{bytes_seen}
use Rattle.pm_crash.specs.SimOps.{LookedAt}
use Rattle.pm_plan.specs.Plans.{IsReady, Plan, Runs, in_turn, known_word}
use Rattle.pm_call.specs.At.{At, entries_so_far}
use Rattle.pm_call.specs.Did.{Acted, After, Cut, Done, IsAtSo, IsRefused, IsUnrefused}
use Rattle.pm_call.specs.Held.{is_in_locks}
use Rattle.pm_call.specs.Incrementing.{HasSum, LeadsIncrement, MayIncrement, NumbersMayBeIncremented}
use Rattle.pm_call.specs.Plans.{increments, known_number, known_sum, puts_sum, tells, writes_words}
use Rattle.pm_call.specs.Ranges.{HasRange, HasSeen, KnowsWords, has_records, is_held_so}
use Rattle.pm_call.specs.Writing.{AreRecorded, MayPut}
use Rattle.pm_call.proofs.HeldWords.{looks_claims}
use Rattle.pm_call.proofs.LoggedCalls.{number_small}
use Rattle.pm_call.proofs.RangeReads.{range_passes}
use Rattle.pm_call.proofs.RangeRefusals.{held_so, range_refusals, ranges_are_looked_at}
use Rattle.pm_call.proofs.RangeWords.{knows_range}
use Rattle.pm_call.proofs.RangeWrites.{LeadsPut, SaysPut, leads_put}
use Rattle.pm_call.proofs.Storing as storing
use Rattle.pm_call.proofs.UnwrittenStops.{increments_unwritten}
use Rattle.pm_call.proofs.WriteLanes.{put_cut, put_done, put_ready, put_tell}

-- ---- the eight bytes of a number, as the code spells them and as the model does

bytes_so : (n : ℕ) → to_le_bytes w64 n ≡ number_bytes n
bytes_so n = ap (λ b. b ∷ bytes_low_first 1 7 n)
    (let e : n % 256 ≡ n / 256 ^ 0 % 256 = omega arith in e)

number_so : (bytes : List ℕ) → length bytes ≡ 8 → from_le_bytes w64 bytes ≡ number_of bytes
number_so [] e = absurd (omega (arith, e))
number_so (a ∷ []) e = absurd (omega (arith, e))
number_so (a ∷ b ∷ []) e = absurd (omega (arith, e))
number_so (a ∷ b ∷ c ∷ []) e = absurd (omega (arith, e))
number_so (a ∷ b ∷ c ∷ d ∷ []) e = absurd (omega (arith, e))
number_so (a ∷ b ∷ c ∷ d ∷ f ∷ []) e = absurd (omega (arith, e))
number_so (a ∷ b ∷ c ∷ d ∷ f ∷ g ∷ []) e = absurd (omega (arith, e))
number_so (a ∷ b ∷ c ∷ d ∷ f ∷ g ∷ h ∷ []) e = absurd (omega (arith, e))
number_so (a ∷ b ∷ c ∷ d ∷ f ∷ g ∷ h ∷ k ∷ []) e = omega arith
number_so (a ∷ b ∷ c ∷ d ∷ f ∷ g ∷ h ∷ k ∷ x ∷ rest) e = absurd (omega (arith, e))

module _ (s : Standing) (at : At s) (id : Oid) (off : ℕ) where
  abbrev pool : ℕ
  pool = s.view.fixed.pool

  -- ---- what the lane may write it may read
  pub readable : (len : ℕ) → HasRange s id off len true → HasRange s id off len false
  readable len r = record {
    pool = r.pool;
    locked = (and_parts (id.pool == pool) (is_in_locks s.locks id.off false)
        (held_so s at id true (and_from (id.pool == pool) (is_in_locks s.locks id.off true)
        (eq-eqb id.pool pool r.pool) r.locked))).1;
    size = r.size;
    sized = r.sized;
    small = r.small;
    inside = r.inside;
  }

  -- ---- THE CHECK: what may be read may be written, or the increment is refused
  module _ (by : ℕ) (r : HasRange s id off 8 false) where
    looks : LookedAt s.view (entries_so_far s) None (Increment id off by)
    looks = ranges_are_looked_at s (Increment id off by) id off 8 false at
        (refl, refl, refl, refl)
        (inl (record { size = r.size; sized = r.sized; small = r.small }))

    pub unheld : is_held_so s id true ≡ false
        → IsRefused s (Increment id off by) refusal.NotLocked
    unfolding first_of
    unheld none = let t = range_passes s id off 8 false r in record {
      looks = looks;
      first = range_refusals s (Increment id off by) id off 8 false at (refl, refl, refl, refl)
          ∙ (λ i. first_of ((refusal.NotLocked, t.0 i) ∷ (refusal.OutOfRange, t.1 i)
          ∷ (refusal.NotLocked, not (none i))
          ∷ (refusal.NotAdded, not (has_records s.view (id.off + off) 8)) ∷ []));
    }

    pub unrecorded : is_held_so s id true ≡ true → has_records s.view (id.off + off) 8 ≡ false
        → IsRefused s (Increment id off by) refusal.NotAdded
    unfolding first_of
    unrecorded held none = let t = range_passes s id off 8 false r in record {
      looks = looks;
      first = range_refusals s (Increment id off by) id off 8 false at (refl, refl, refl, refl)
          ∙ (λ i. first_of ((refusal.NotLocked, t.0 i) ∷ (refusal.OutOfRange, t.1 i)
          ∷ (refusal.NotLocked, not (held i)) ∷ (refusal.NotAdded, not (none i)) ∷ []));
    }

    pub passed : is_held_so s id true ≡ true → has_records s.view (id.off + off) 8 ≡ true
        → IsUnrefused s (Increment id off by)
    unfolding first_of
    passed held recorded = let t = range_passes s id off 8 false r in record {
      looks = looks;
      none = range_refusals s (Increment id off by) id off 8 false at (refl, refl, refl, refl)
          ∙ (λ i. first_of ((refusal.NotLocked, t.0 i) ∷ (refusal.OutOfRange, t.1 i)
          ∷ (refusal.NotLocked, not (held i)) ∷ (refusal.NotAdded, not (recorded i)) ∷ []));
    }

    pub may : is_held_so s id true ≡ true → has_records s.view (id.off + off) 8 ≡ true
        → MayIncrement s id off
    may held recorded = record {
      range = record {
        pool = r.pool;
        locked = (and_parts (id.pool == pool) (is_in_locks s.locks id.off true) held).1;
        size = r.size;
        sized = r.sized;
        small = r.small;
        inside = r.inside;
      };
      recorded = recorded;
    }

-- ---- THE LAW
module _ (s : Standing) (at : At s) (id : Oid) (off by : ℕ) (can : MayIncrement s id off) where
  abbrev sum : ℕ
  sum = known_sum s.view id off by

  may_put : MayPut s id off (number_bytes sum)
  may_put = record {
    range = can.range;
    recorded = can.recorded;
    are_bytes = number_small sum;
  }

  -- its words are known, since they are recorded
  known : KnowsWords s.view (id.off + off) 8
  known w c = record {
    value = known_word s.view w;
    known = storing.known_is s at id off (number_bytes sum) may_put w c;
    small = storing.known_small s at id off (number_bytes sum) may_put w c;
  }

  held : is_held_so s id true ≡ true
  held = and_from (id.pool == s.view.fixed.pool) (is_in_locks s.locks id.off true)
      (eq-eqb id.pool s.view.fixed.pool can.range.pool) can.range.locked

  says : SaysPut s id off (number_bytes sum) (Increment id off by) (Some (Number sum))
  says = record {
    unrefused = passed s at id off by (readable s at id off 8 can.range) held can.recorded;
    puts = inr (
      id,
      by,
      known_word s.view,
      refl,
      refl,
      knows_range s at id off 8 true can.range known,
      refl,
      refl,
    );
    copy = λ tx.
        (edited (put_into id.off off (number_bytes (incremented tx id.off off by))) tx.items, refl);
    plain = λ p. refl;
    told = λ v. refl;
  }

  pub leads_sum : LeadsPut s (puts_sum id off by (known_sum s.view id off by))
  leads_sum = leads_put s at id off (number_bytes sum) may_put (Increment id off by)
      (Some (Number sum)) says

  pub leads_increment : LeadsIncrement s id off by
  leads_increment = let l = leads_sum in record {
    unrefused = says.unrefused;
    ready = l.ready;
    stands = l.stands;
    fields = l.fields;
  }

pub numbers_may_be_incremented : NumbersMayBeIncremented
numbers_may_be_incremented s id off by at can = leads_increment s at id off by can

-- ---- THE NUMBER IS READ

-- what is left by reading it
abbrev pub HasReadNumber : {M : Type 0} → (M → View → Type 0) → Lane M → Oid → ℕ → ℕ → Standing
    → Type 0
HasReadNumber at lane id off found t =
    (found ≡ known_number t.view id off) × MayIncrement t id off × Works at lane t × At t

abbrev pub WasRead : {M : Type 0} → (M → View → Type 0) → Lane M → Lane M → Oid → ℕ → ℕ
    → Type 0
WasRead at old mid id off found = (s : Standing) → Works at old s → At s → MayIncrement s id off
    → After s (HasReadNumber at mid id off found)

pub number_read : {M : Type 0} (at : M → View → Type 0) (lane : Lane M) (id : Oid)
    (off found : ℕ) (bytes : List ℕ) (s : Standing) → MayIncrement s id off → length bytes ≡ 8
    → found ≡ from_le_bytes w64 bytes
    → After s (λ t. HasSeen t id off 8 false
    × (bytes ≡ bytes_seen (known_word t.view) id.off off 8) × Works at lane t × At t)
    → After s (HasReadNumber at lane id off found)
number_read at lane id off found bytes s can long is a = let r = a.holds.0.range in record {
  looks = a.looks;
  view = a.view;
  looked = a.looked;
  holds = (
    is ∙ (number_so bytes long ∙ ap number_of a.holds.1),
    record {
      range = record {
        pool = r.pool;
        locked = can.range.locked;
        size = r.size;
        sized = r.sized;
        small = r.small;
        inside = r.inside;
      };
      recorded = subst (λ (v : View). AreRecorded v (id.off + off) 8)
          (sym (looks_claims a.looks s.view a.view a.looked)) can.recorded;
    },
    a.holds.2,
    a.holds.3,
  );
}

-- ---- THE SUM IS WRITTEN, AND TOLD
module _ {M : Type 0} (at : M → View → Type 0) (old mid : Lane M) (id : Oid) (off by found : ℕ)
    (bytes : List ℕ) (spelled : bytes ≡ to_le_bytes w64 ((found + by) % 2 ^ 64))
    (read : WasRead at old mid id off found) where
  abbrev pub Here : Type 0
  Here = IsAtSo at old (λ s. MayIncrement s id off)

  abbrev number : ℕ
  number = (found + by) % 2 ^ 64

  abbrev place : ℕ
  place = id.off + off

  abbrev tells_sum : Plan
  tells_sum = tells (Increment id off by) (Some (Number number))

  abbrev plan : Plan
  plan = in_turn (writes_words place bytes) tells_sum

  -- the plan of the sum is that of these bytes
  sum_so : (t : Standing) → HasReadNumber at mid id off found t
      → known_sum t.view id off by ≡ number
  sum_so t h = ap (λ n. (n + by) % 2 ^ 64) (sym h.0)

  plan_so : (t : Standing) → HasReadNumber at mid id off found t
      → puts_sum id off by (known_sum t.view id off by) ≡ plan
  plan_so t h = ap (puts_sum id off by) (sum_so t h)
      ∙ ap (λ bs. in_turn (writes_words place bs) tells_sum) (sym (spelled ∙ bytes_so number))

  leads : (t : Standing) → HasReadNumber at mid id off found t → LeadsPut t plan
  leads t h = subst (LeadsPut t) (plan_so t h) (leads_sum t h.3 id off by h.1)

  abbrev then : Here → Standing
  then h = moved h.standing (read h.standing h.works h.stands h.holds).view

  has : (h : Here) → HasReadNumber at mid id off found (then h)
  has h = (read h.standing h.works h.stands h.holds).holds

  pub sum_ready : Here → IsReady (at mid.memory) (writes_words (id.off + off) bytes)
  sum_ready h = put_ready at mid (then h) (has h).2 (has h).3.working place bytes (Increment id off by)
      (Some (Number number)) (leads (then h) (has h))

  pub sum_tell : (memory : M) → Here
      → Runs {T = Unit {0}} (at mid.memory) (at memory) (writes_words (id.off + off) bytes) (Ok tt)
      → (v : View) × at memory v × Allowed v (Tell (Increment id off by) (Some (Number number)))
  sum_tell memory h = put_tell at mid (then h) (has h).2 (has h).3.working place bytes (Increment id off by)
      (Some (Number number)) (leads (then h) (has h)) memory

  abbrev Acts : Lane M → Result ℕ Refusal → Type 0
  Acts new result = Acted at old new (λ s. MayIncrement s id off) (Increment id off by)
      (λ v. increments id off by) (HasSum id off by) result

  pub sum_ok : (may : View → Step → Type 0) → ((v : View) (s : Step) → Allowed v s → may v s)
      → (memory new : M)
      → Runs {T = Unit {0}} (at mid.memory) (at memory) (writes_words (id.off + off) bytes) (Ok tt)
      → Made may (at memory) (at new) (Tell (Increment id off by) (Some (Number number)))
      → Acts (record mid { memory = new }) (Ok number)
  unfolding Acted
  sum_ok may grants memory new runs told s works is can =
      let a = read s works is can in
      let t : Standing = moved s a.view in
      let l = leads_increment t a.holds.3 id off by a.holds.1 in
      let d = subst (λ p. Done at (record mid { memory = new }) t (Increment id off by) p)
      (sym (plan_so t a.holds)) (put_done at mid t a.holds.2 a.holds.3.working place bytes
      (Increment id off by) (Some (Number number)) (leads t a.holds) may grants memory new runs
      told l.unrefused) in
      record {
        looks = a.looks;
        view = a.view;
        looked = a.looked;
        holds = (
          record {
            unrefused = d.unrefused;
            ready = d.ready;
            works = d.works;
            stands = d.stands;
          },
          sym (sum_so t a.holds),
        );
      }

  pub sum_cut : (memory : M) (stopped : Stopped)
      → Runs {T = Unit {0}} (at mid.memory) (at memory) (writes_words (id.off + off) bytes)
      (Err stopped)
      → Acts (record mid { memory = memory }) (Err refusal.Stopped)
  unfolding Acted
  sum_cut memory stopped runs s works is can =
      let a = read s works is can in
      let t : Standing = moved s a.view in
      let l = leads_increment t a.holds.3 id off by a.holds.1 in
      let c = subst (λ p. Cut at (record mid { memory = memory }) t p false)
      (sym (plan_so t a.holds)) (put_cut at mid t a.holds.2 a.holds.3.working place bytes
      (Increment id off by) (Some (Number number)) (leads t a.holds) memory stopped runs) in
      record {
        looks = a.looks;
        view = a.view;
        looked = a.looked;
        holds = (
          l.unrefused,
          (
            record {
              working = c.working;
              ready = c.ready;
              stops = c.stops;
              fields = c.fields;
              facts = c.facts;
            },
            λ e. increments_unwritten t a.holds.3 id off by a.holds.1.range c.stops.made,
          ),
        );
      }
