-- Tests in a row: the first that failed.
use Rattle.std.proofs.Common.{◌≡◌, Bool, true, false, cond, List, [], ◌∷◌, ◌++◌, Option, None, Some, refl}
use Rattle.pm_script.specs.Scripts.{first_failed}
use Rattle.pm_script.specs.declared.fault.Why.{Why}

passed : {first last : Option Why} (b : Bool) (why : Why) (front : Option Why) → (front ≡ None → first ≡ last) → cond b front (Some why) ≡ None → cond b first (Some why) ≡ last
passed true why front f is = f is
passed false why front f is = cc

failed : {first : Option Why} (b : Bool) (why other : Why) (front : Option Why) → (front ≡ Some other → first ≡ Some other) → cond b front (Some why) ≡ Some other → cond b first (Some why) ≡ Some other
failed true why other front f is = f is
failed false why other front f is = is

-- where no test of the front fails, those behind decide
pub behind_passed : (front back : List (Bool × Why)) → first_failed front ≡ None → first_failed (front ++ back) ≡ first_failed back
behind_passed [] back fine = refl
behind_passed (test ∷ front) back fine = passed test.0 test.1 (first_failed front) (behind_passed front back) fine

-- where no test fails, none of the front does
pub front_passed : (front back : List (Bool × Why)) → first_failed (front ++ back) ≡ None → first_failed front ≡ None
front_passed [] back fine = refl
front_passed (test ∷ front) back fine = passed test.0 test.1 (first_failed (front ++ back)) (front_passed front back) fine

-- what fails in the front fails first
pub front_failed : (front back : List (Bool × Why)) (why : Why) → first_failed front ≡ Some why → first_failed (front ++ back) ≡ Some why
front_failed [] back why is = cc
front_failed (test ∷ front) back why is = failed test.0 test.1 why (first_failed front) (front_failed front back why) is

both : {first last : Option Why} (b : Bool) (why : Why) → (first ≡ None → last ≡ None) → cond b first (Some why) ≡ None → last ≡ None
both true why f is = f is
both false why f is = cc

-- where no test fails, none behind does
pub back_passed : (front back : List (Bool × Why)) → first_failed (front ++ back) ≡ None → first_failed back ≡ None
back_passed [] back fine = fine
back_passed (test ∷ front) back fine = both test.0 test.1 (back_passed front back) fine
