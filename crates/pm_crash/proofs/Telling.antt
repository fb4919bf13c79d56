-- An operation that is told leaves the blocks of the lane's own that are to be objects.
use Rattle.std.proofs.Common.{inl, subst, ◌≡◌, ⊎_elim, ℕ, ◌==◌, ◌||◌, Bool, true, false, cond, List, [], ◌∷◌, ◌++◌, map, Option, Some, None, refl, sym, ◌∙◌, ap}
use Rattle.std.specs.List.{Contains, list_any}
use Rattle.std.proofs.lemmas.Bool.{and_from, and_parts, both_ways, or_cases, or_left, or_right}
use Rattle.std.proofs.lemmas.List.{map-append}
use Rattle.std.proofs.lemmas.List.Folds.{list_any-append}
use Rattle.pm_objects.specs.declared.calls.Operation.{Operation}
use Rattle.pm_objects.specs.declared.calls.Operation.TheVariants.{Reserve, WriteReserved, DeferFree, SetValue, Publish, Cancel}
use Rattle.pm_objects.specs.declared.history.Value.{Value}
use Rattle.pm_objects.specs.declared.history.Value.TheVariants.{Offset}
use Rattle.pm_model.specs.Blocks.{Block as Placed}
use Rattle.pm_model.specs.Inside.{is_kept_by}
use Rattle.pm_model.specs.Items.{put_bytes}
use Rattle.pm_model.specs.Pending.{Pending, Reservation, block_of, blocks_reserved, new_reservation}
use Rattle.pm_view.specs.Places.{Place, InRun, InHuge, Descr, RootWord}
use Rattle.pm_objects.specs.declared.ids.Oid.{Oid}
use Rattle.pm_image.proofs.Members.{no_member}
use Rattle.pm_view.specs.Changes.{Undrained}
use Rattle.pm_view.specs.Steps.{Step}
use Rattle.pm_view.specs.Steps.Step.{Tell}
use Rattle.pm_view.specs.View.{Seen, Told, View}
use Rattle.pm_crash.specs.SimOps.{NoRootIsAsked}
use Rattle.pm_crash.proofs.Simulation.{sim_stays}
use Rattle.pm_view.specs.Views as views
use Rattle.pm_crash.specs.Calls.{pending_after, pending_of, pending_with}
use Rattle.pm_crash.specs.Footprints.{has_own}
use Rattle.pm_crash.specs.Sim.{SimIsKept, IsSamePlace, TellsGrow, blocks_kept, known_offset, made_after, made_by}

-- some block begins at the offset
abbrev has_off : ℕ → List Placed → Bool
has_off off blocks = list_any (λ (b : Placed). b.off == off) blocks

left_of : (off : ℕ) (xs ys : List Placed) → has_off off xs ≡ true → has_off off (xs ++ ys) ≡ true
left_of off xs ys e = list_any-append (λ (b : Placed). b.off == off) xs ys ∙ or_left (has_off off xs) (has_off off ys) e

right_of : (off : ℕ) (xs ys : List Placed) → has_off off ys ≡ true → has_off off (xs ++ ys) ≡ true
right_of off xs ys e = list_any-append (λ (b : Placed). b.off == off) xs ys ∙ or_right (has_off off xs) (has_off off ys) e

in_either : (Q : Type 0) (off : ℕ) (xs ys : List Placed) → has_off off (xs ++ ys) ≡ true → (has_off off xs ≡ true → Q) → (has_off off ys ≡ true → Q) → Q
in_either Q off xs ys e f g = ⊎_elim f g (or_cases (has_off off xs) (has_off off ys) (sym (list_any-append (λ (b : Placed). b.off == off) xs ys) ∙ e))

-- one more operation makes what it makes besides
made_more : (told : List Told) (t : Told) (p : Pending) (off : ℕ) → has_off off (made_after told p) ≡ true → has_off off (made_after (told ++ t ∷ []) p) ≡ true
unfolding made_after
made_more [] t p off e = absurd (both_ways false refl e)
made_more (r ∷ told) t p off e = in_either (has_off off (made_after (r ∷ told ++ t ∷ []) p) ≡ true) off (made_by r.operation r.reply p) (made_after told (pending_with r.operation r.reply p)) e
    (λ x. left_of off (made_by r.operation r.reply p) (made_after (told ++ t ∷ []) (pending_with r.operation r.reply p)) x)
    (λ x. right_of off (made_by r.operation r.reply p) (made_after (told ++ t ∷ []) (pending_with r.operation r.reply p)) (made_more told t (pending_with r.operation r.reply p) off x))

made_last : (told : List Told) (t : Told) (p : Pending) (off : ℕ) → has_off off (made_by t.operation t.reply (pending_after told p)) ≡ true → has_off off (made_after (told ++ t ∷ []) p) ≡ true
unfolding made_after pending_after
made_last [] t p off e = left_of off (made_by t.operation t.reply p) [] e
made_last (r ∷ told) t p off e = right_of off (made_by r.operation r.reply p) (made_after (told ++ t ∷ []) (pending_with r.operation r.reply p)) (made_last told t (pending_with r.operation r.reply p) off e)

pending_more : (told : List Told) (t : Told) (p : Pending) → pending_after (told ++ t ∷ []) p ≡ pending_with t.operation t.reply (pending_after told p)
unfolding pending_after
pending_more [] t p = refl
pending_more (r ∷ told) t p = pending_more told t (pending_with r.operation r.reply p)

-- bytes that are put in leave where it is reserved
put_off : (c : Bool) (r : Reservation) (at : ℕ) (bytes : List ℕ) → (cond c (record r { bytes = put_bytes at bytes r.bytes }) r).off ≡ r.off
put_off true r at bytes = refl
put_off false r at bytes = refl

put_in : (rs : List Reservation) (o at : ℕ) (bytes : List ℕ) (off : ℕ)
    → has_off off (map block_of (map (λ (r : Reservation). cond (r.off == o) (record r { bytes = put_bytes at bytes r.bytes }) r) rs)) ≡ has_off off (map block_of rs)
put_in [] o at bytes off = refl
put_in (r ∷ rs) o at bytes off = λ i. (put_off (r.off == o) r at bytes i == off) || put_in rs o at bytes off i

-- what is reserved stays so, but for what is published or cancelled
abbrev Stays : Operation → Option Value → Pending → Type 0
Stays op reply p = (off : ℕ) → has_off off (blocks_reserved p) ≡ true → has_off off (blocks_reserved (pending_with op reply p)) ≡ true

some_reserved : (size kind o : ℕ) (p : Pending) → Stays (Reserve size kind) (Some (Offset o)) p
some_reserved size kind o p off e = ap (has_off off) (map-append block_of p.reserved (new_reservation o kind size ∷ [])) ∙ left_of off (blocks_reserved p) (map block_of (new_reservation o kind size ∷ [])) e

-- the blocks that are to be objects before are so after
abbrev KeptSo : Operation → Option Value → Type 0
KeptSo op reply = (v : View) (kept : Bool) (off : ℕ) → has_off off (blocks_kept (is_kept_by op kept) v) ≡ true → has_off off (blocks_kept kept (views.after v (Tell op reply))) ≡ true

plain_kept : (op : Operation) (reply : Option Value) → ((kept : Bool) → is_kept_by op kept ≡ kept) → ((p : Pending) → Stays op reply p) → KeptSo op reply
plain_kept op reply same stays v kept off e =
    let t : Told = record { operation = op; reply = reply } in
    let p : Pending = pending_of v.entries in
    let e' : has_off off (blocks_kept kept v) ≡ true = ap (λ b. has_off off (blocks_kept b v)) (sym (same kept)) ∙ e in
    in_either (has_off off (blocks_kept kept (views.after v (Tell op reply))) ≡ true) off (made_after v.call p) (cond kept (blocks_reserved (pending_after v.call p)) []) e'
    (λ x. left_of off (made_after (v.call ++ t ∷ []) p) (cond kept (blocks_reserved (pending_after (v.call ++ t ∷ []) p)) []) (made_more v.call t p off x))
    (λ x. right_of off (made_after (v.call ++ t ∷ []) p) (cond kept (blocks_reserved (pending_after (v.call ++ t ∷ []) p)) []) (by kept x))
  where
    by : (b : Bool) → has_off off (cond b (blocks_reserved (pending_after v.call (pending_of v.entries))) []) ≡ true
        → has_off off (cond b (blocks_reserved (pending_after (v.call ++ record { operation = op; reply = reply } ∷ []) (pending_of v.entries))) []) ≡ true
    by true x = ap (λ q. has_off off (blocks_reserved q)) (pending_more v.call (record { operation = op; reply = reply }) (pending_of v.entries)) ∙ stays (pending_after v.call (pending_of v.entries)) off x
    by false x = absurd (both_ways false refl x)

publish_kept : (reply : Option Value) → KeptSo Publish reply
publish_kept reply v kept off e =
    let t : Told = record { operation = Publish; reply = reply } in
    let p : Pending = pending_of v.entries in
    left_of off (made_after (v.call ++ t ∷ []) p) (cond kept (blocks_reserved (pending_after (v.call ++ t ∷ []) p)) [])
    (in_either (has_off off (made_after (v.call ++ t ∷ []) p) ≡ true) off (made_after v.call p) (blocks_reserved (pending_after v.call p)) e
    (λ x. made_more v.call t p off x) (λ x. made_last v.call t p off x))

cancel_kept : (reply : Option Value) → KeptSo Cancel reply
cancel_kept reply v kept off e =
    let t : Told = record { operation = Cancel; reply = reply } in
    let p : Pending = pending_of v.entries in
    left_of off (made_after (v.call ++ t ∷ []) p) (cond kept (blocks_reserved (pending_after (v.call ++ t ∷ []) p)) [])
    (in_either (has_off off (made_after (v.call ++ t ∷ []) p) ≡ true) off (made_after v.call p) [] e
    (λ x. made_more v.call t p off x) (λ x. absurd (both_ways false refl x)))

kept_so : (op : Operation) (reply : Option Value) → KeptSo op reply
kept_so Publish reply = publish_kept reply
kept_so Cancel reply = cancel_kept reply
kept_so (Reserve size kind) (Some (Offset o)) = plain_kept (Reserve size kind) (Some (Offset o)) (λ k. refl) (some_reserved size kind o)
kept_so (Reserve size kind) reply = plain_kept (Reserve size kind) reply (λ k. refl) (λ p off e. e)
kept_so (WriteReserved id at bytes) None = plain_kept (WriteReserved id at bytes) None (λ k. refl) (λ p off e. put_in p.reserved id.off at bytes off ∙ e)
kept_so (WriteReserved id at bytes) reply = plain_kept (WriteReserved id at bytes) reply (λ k. refl) (λ p off e. e)
kept_so (DeferFree id) None = plain_kept (DeferFree id) None (λ k. refl) (λ p off e. e)
kept_so (DeferFree id) reply = plain_kept (DeferFree id) reply (λ k. refl) (λ p off e. e)
kept_so (SetValue id at value) None = plain_kept (SetValue id at value) None (λ k. refl) (λ p off e. e)
kept_so (SetValue id at value) reply = plain_kept (SetValue id at value) reply (λ k. refl) (λ p off e. e)
kept_so op reply = plain_kept op reply (λ k. refl) (λ p off e. e)

same_place : (v : View) (op : Operation) (reply : Option Value) (p : Place) → IsSamePlace v (views.after v (Tell op reply)) p
same_place v op reply (InRun c w) = refl
same_place v op reply (InHuge c w) = refl
same_place v op reply (Descr c) = tt
same_place v op reply RootWord = tt

pub tells_grow : TellsGrow
tells_grow v op reply kept = record {
  found = λ B t. t;
  spans = λ f t. refl;
  class = λ c i t. refl;
  own = λ B t.
      let y = and_parts (has_own v B) (has_off (known_offset v B) (blocks_kept (is_kept_by op kept) v)) t in
      and_from (has_own v B) (has_off (known_offset v B) (blocks_kept kept (views.after v (Tell op reply)))) y.0 (kept_so op reply v kept (known_offset v B) y.1);
  lines = λ B line t y. y;
  sees = λ p b t. (t, same_place v op reply p);
  recorded = λ p b s t. inl t;
  knows = λ p b y t e. e;
  roots = λ l n t. t;
}

-- ---- steps that teach nothing of bits

pub still_place : (v : View) (changes : List Undrained) (calls : List Step) (occupancy : List Seen) (zones : List ℕ) (seen : List Step) (p : Place)
    → IsSamePlace v (record v { changes = changes; calls = calls; occupancy = occupancy; zones = zones; seen = seen }) p
still_place v changes calls occupancy zones seen (InRun c w) = refl
still_place v changes calls occupancy zones seen (InHuge c w) = refl
still_place v changes calls occupancy zones seen (Descr c) = tt
still_place v changes calls occupancy zones seen RootWord = tt

pub sim_is_kept : SimIsKept
sim_is_kept v entries changes calls occupancy zones seen sim =
    sim_stays v (record v { changes = changes; calls = calls; occupancy = occupancy; zones = zones; seen = seen }) entries entries sim
    (record { fixed = refl; entries = refl }) refl
    (λ kept. record {
      found = λ B t. t;
      spans = λ f t. refl;
      class = λ c i t. refl;
      own = λ B t. t;
      lines = λ B line t y. y;
      sees = λ p b t. (t, still_place v changes calls occupancy zones seen p);
      recorded = λ p b s t. inl t;
      knows = λ p b y t e. e;
      roots = λ l n t. t;
    })
    (λ p b. inl refl)

-- ---- operations that free nothing

pub no_root_is_asked : NoRootIsAsked
no_root_is_asked v root op none kept classes s header pool x holds id named held stays =
    absurd (no_member id (subst (λ (xs : List Oid). Contains xs id) none named))
