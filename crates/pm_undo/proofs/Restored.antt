-- Putting back is lawful, and restores every recorded word.
use Rattle.std.proofs.Common.{◌≡◌, ℕ, ◌+◌, ◌-◌, ◌<◌, inl, true, ◌==◌, List, [], length, map, take, get_or, replicate, refl, sym, ap, ◌∙◌, subst, arith, None}
use Rattle.std.specs.Prelude.{slice_index}
use Rattle.std.specs.Int.{bit_at}
use Rattle.std.specs.Option.{option_map}
use Rattle.std.proofs.lemmas.Bool.{both_ways, cond-true}
use Rattle.std.proofs.lemmas.List.{get_or-map, length-map, take-append-le, take_all}
use Rattle.std.proofs.lemmas.Option.{same_Some}
use Rattle.pm_layout.specs.declared.shape.Shape.{Shape}
use Rattle.pm_view.specs.Claims.{pictured}
use Rattle.pm_view.specs.Log.{Recorded}
use Rattle.pm_view.specs.Places.{place_after, word_of}
use Rattle.pm_view.specs.View.{View}
use Rattle.pm_view.specs.Views.{after_all}
use Rattle.pm_world.specs.LaneFields.{kept_of}
use Rattle.pm_world.specs.Lawful.{place_in}
use Rattle.pm_world.specs.Logs.{AreRestored}
use Rattle.pm_world.specs.States.{given}
use Rattle.pm_world.specs.Sights.{is_pictured, is_recorded, picture}
use Rattle.pm_world.specs.declared.lane.KeptRecord.{KeptRecord}
use Rattle.pm_world.proofs.RecordsAtPlaces.{data_pictured}
use Rattle.pm_plan.specs.Plans.{Ready, in_turn, persists_all, repeated, stores}
use Rattle.pm_plan.proofs.Going.{Goes, goes_repeated, goes_stores, goes_weaker, persists_all_lawful}
use Rattle.pm_plan.proofs.Plans.{after_all-append, ready_both}
use Rattle.pm_plan.specs.Plans.{stores_from}
use Rattle.pm_undo.specs.Plans.{puts_back, restores, restores_record}
use Rattle.pm_undo.specs.Records.{no_record, record_at}
use Rattle.pm_undo.specs.Working.{CanEndAt, CanRetire, IsRestored, IsStanding, IsWorking}
use Rattle.pm_plan.proofs.AreaParts.{data_beyond}
use Rattle.pm_undo.proofs.Apart.{no_recorded}
use Rattle.pm_undo.proofs.Logging.{knows_so, log_again, log_with, pictures_so, still_working}
use Rattle.pm_undo.proofs.Putting.{Putting, may_put, next_record, put_on, putting_starts, still_putting}
use Rattle.pm_undo.proofs.RecordedWords.{known_place}
use Rattle.pm_undo.proofs.Snapshotted.{at_index}

-- of the words kept those that count
pub kept_words : (sh : Shape) (r : Recorded) → take (kept_of sh r).count (kept_of sh r).old ≡ r.old
kept_words sh r = take-append-le (length r.old) r.old (replicate (4 - length r.old) 0) (omega arith)
    ∙ take_all (length r.old) r.old (omega arith)

module _ (v : View) (working : IsWorking v) where
  abbrev sh : Shape
  sh = v.fixed.shape

  abbrev records : List Recorded
  records = v.log.records

  abbrev nth : ℕ → Recorded
  nth k = get_or records k no_recorded

  put_record : (k : ℕ) → k < length records → Goes (Putting v working k 0)
      (restores_record (record_at (map (kept_of sh) records) k)) (Putting v working (k + 1) 0)
  unfolding restores_record stores_from
  put_record k low = subst (λ (q : KeptRecord). Goes (Putting v working k 0) (restores_record q)
      (Putting v working (k + 1) 0))
      (sym (get_or-map (kept_of sh) records k no_recorded no_record low))
      (subst (λ (old : List ℕ). Goes (Putting v working k 0)
      (repeated (λ i. stores (word_of sh (nth k).place + i) (slice_index old i)) (length old))
      (Putting v working (k + 1) 0)) (sym (kept_words sh (nth k)))
      (goes_weaker (Putting v working k 0) (Putting v working k 0)
      (Putting v working k (length (nth k).old)) (Putting v working (k + 1) 0)
      (repeated (λ i. stores (word_of sh (nth k).place + i) (slice_index (nth k).old i))
      (length (nth k).old)) (λ u p. p) (λ u p. next_record v working k u low p)
      (goes_repeated (Putting v working k) (λ i. stores (word_of sh (nth k).place + i)
      (slice_index (nth k).old i)) (length (nth k).old)
      (λ j small. subst (λ w. Goes (Putting v working k j) (stores w (slice_index (nth k).old j))
      (Putting v working k (j + 1)))
      ((at_index (IsStanding v) records no_recorded k working.standing low).row j small).1
      (goes_stores (Putting v working k j) (Putting v working k (j + 1))
      (word_of sh (place_after (nth k).place j)) (slice_index (nth k).old j)
      (λ u w p is. (still_putting v working k j u w p is).0)
      (λ u p room. (
        may_put v working k j u p low small room,
        put_on v working k j u p low
            small,
      )))))))

  all_put : Goes (Putting v working 0 0) (puts_back (map (kept_of sh) records))
      (Putting v working (length records) 0)
  unfolding puts_back
  all_put =
      subst (λ n. Goes (Putting v working 0 0)
      (repeated (λ i. restores_record (record_at (map (kept_of sh) records) i)) n)
      (Putting v working (length records) 0)) (sym (length-map records (kept_of sh)))
      (goes_repeated (λ k. Putting v working k 0)
      (λ i. restores_record (record_at (map (kept_of sh) records) i)) (length records)
      put_record)

  -- ---- what that leaves
  restored_so : (u : View) → Putting v working (length records) 0 u → u.changes ≡ []
      → IsRestored v u
  restored_so u p none = record {
    same = p.at.same
        ∙ (ap (λ c. record v {
          claims = u.claims;
          changes = c;
          calls = u.calls;
          log = log_with v records [];
        }) none
        ∙ ap (λ l. record v { claims = u.claims; changes = []; calls = u.calls; log = l })
        (sym (log_again v working records)));
    noted = record { notes = p.at.notes; are = p.at.are; each = p.at.each };
    restored = subst (λ (y : View). AreRestored (picture y.fixed.shape y.claims) y.log.records)
        (sym p.at.same) is_restored;
    known = λ q plain at new. knows_so p.at (word_of sh q) (λ o has_ e. both_ways
        (is_recorded records q) new
        (subst (λ z. is_recorded records z ≡ true) (same_Some o q
        (sym (known_place v records o working.standing has_).use_ ∙ (ap (place_in v) (sym e) ∙ at)))
        has_));
    others = λ y out. pictures_so p.at y out;
    working = still_working p.at working (λ o has_ e. let f = data_beyond sh o
        (known_place v records o working.standing has_).plain in let low = working.lane in
        omega (arith, e, f, low)) p.far refl working.few working.standing working.once;
  }
    where
      is_restored : AreRestored (picture sh u.claims) records
      is_restored q x b e =
          let is = known_place v records q working.standing (ap given e) in
          let all : is_recorded (take (length records) records) q ≡ true =
          ap (λ rs. is_recorded rs q) (take_all (length records) records (omega arith))
          ∙ ap given e in
          cond-true (is_pictured q)
          (option_map (λ y. bit_at y b == 1) (pictured sh u.claims (word_of sh q))) None
          (data_pictured sh q is.plain is.there) ∙ ap (option_map (λ y. bit_at y b == 1))
          (p.done q x (inl all) is.use_ e)

  -- PUTTING BACK IS LAWFUL
  pub restore_lawful : Ready v (restores v) × IsRestored v (after_all v (restores v))
  unfolding restores in_turn
  restore_lawful =
      let plan = puts_back (map (kept_of sh) records) in
      let one = all_put v (putting_starts v working) in
      let u : View = after_all v (plan v) in
      let two = persists_all_lawful u in
      let t = still_putting v working (length records) 0 u (after_all u (persists_all u)) one.1
      two.1 in (
        ready_both v (plan v) (persists_all u) one.0 two.0,
        subst (IsRestored v)
            (sym (after_all-append v (plan v) (persists_all u)))
            (restored_so (after_all u (persists_all u)) t.0 t.1),
      )

-- AND THEN THE GENERATION MAY END
pub restored_may_retire : (v w : View) → IsRestored v w → CanRetire w
restored_may_retire v w is = let working = is.working in record {
  ends = subst (CanEndAt w) (sym working.is_open) is.restored;
  whole = working.whole;
  unentered = working.unentered;
  below = working.below;
  lane = working.lane;
  unmaking = working.unmaking;
  drained = ap (λ (y : View). y.changes) is.same;
  known = working.known;
}
