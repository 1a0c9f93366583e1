-- The list of what differs is empty exactly for equal logs. Assumes nothing.
use Rattle.std.proofs.Common.{◌≡◌, ℕ, suc, Bool, true, false, cond, List, [], ◌∷◌, ◌++◌, length, sym, refl, ◌∙◌}
use Rattle.keys.proofs.Equal.{equal-true, equal-refl}
use Rattle.logs.specs.Logs.{Stored, records}
use Rattle.logs.proofs.Joined.{joined}
use Rattle.log_compare.specs.Entries.{content, same, entries_from, entries_of}
use Rattle.log_compare.specs.Laws.{NoneIfEqual}
use Rattle.log_compare.specs.declared.Entry.TheVariants.{Both}

parts : {a b c d : ℕ} {s t : List ℕ} → a ≡ b → c ≡ d → s ≡ t
    → ◌≡◌ {A = Stored} (record { low = a; high = c; body = s }) (record { low = b; high = d; body = t })
parts e f g = rw (e, f, g)

same_true : (r q : Stored) → same r q ≡ true → r ≡ q
unfolding same content
same_true r q h = let e = equal-true (content r) (content q) h in parts (cc) (cc) (cc)

same_refl : (r : Stored) → same r r ≡ true
unfolding same
same_refl r = equal-refl (content r)

none_equal : (n : ℕ) (rs qs : List Stored) → entries_from n rs qs ≡ [] → rs ≡ qs
unfolding entries_from
none_equal n [] [] h = refl
none_equal n [] (q ∷ qs) h = cc
none_equal n (r ∷ rs) [] h = cc
none_equal n (r ∷ rs) (q ∷ qs) h = case (same r q) refl h (none_equal (suc n) rs qs)
  where
    case : (b : Bool) → same r q ≡ b → cond b [] (Both n (length r.body) (length q.body) ∷ []) ++ entries_from (suc n) rs qs ≡ []
        → (entries_from (suc n) rs qs ≡ [] → rs ≡ qs) → r ∷ rs ≡ q ∷ qs
    case true e k f = rw (same_true r q e, f k)
    case false e k f = cc

equal-none : (n : ℕ) (rs : List Stored) → entries_from n rs rs ≡ []
unfolding entries_from
equal-none n [] = refl
equal-none n (r ∷ rs) = rw (same_refl r) (equal-none (suc n) rs)

pub none_if_equal : NoneIfEqual
unfolding entries_of
none_if_equal a b x y h k =
    ((λ e. sym (joined 4 a x h) ∙ rw (none_equal 1 (records 4 a) (records 4 b) e) (joined 4 b y k)), (λ e. rw e (equal-none 1 (records 4 b))))
