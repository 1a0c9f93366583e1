-- The converter's three answers, and E7's theorem: a converted log has the old log's kinds and bodies, in order; it is two bytes longer for
-- each, and never broken. Assumes nothing.
use Prim.Native.Nat.{ℕ, ◌+◌, ◌*◌, ◌^◌, ◌≤◌, ◌<◌}
use native.Mathlib.Omega.{arith}
use mathlib.Core.Path.{◌≡◌, refl, ap, ◌∙◌}
use mathlib.Core.Bool.{Bool, true, false}
use mathlib.Core.List.{List, [], ◌∷◌}
use borrow.Author.Tests.{eq-eqb, ne_eqb, lt-ltb, le-ltb, ltb-false}
use lib.Dec.{ltb}
use lib.ListN.{length, length-append}
use Rattle.buffer.specs.Answers.{refused, wrote}
use Rattle.buffer.proofs.WriteLaws.{take-front}
use Rattle.fields.specs.Laws.{AreBytes, AllFit}
use Rattle.logs.specs.Logs.{Stored, stored_bytes, log_of, records, whole_length, is_whole, whole, read_log}
use Rattle.logs.specs.Convert.{wider, convert_of}
use Rattle.logs.specs.Laws.{ShortBody, Alike, ReadsAlike}
use Rattle.logs.proofs.Walk.{stored-length}
use Rattle.logs.proofs.Joined.{whole_length_lem, reads, read_back, short_bodies}

-- ---- the three answers

module _ (log out : List ℕ) where
  pub cut : (whole_length 2 log ≡ length log → ⊥) → convert_of log out ≡ refused 70 out
  unfolding convert_of is_whole
  cut h = rw (ne_eqb (whole_length 2 log) (length log) h)

  module _ (h : whole_length 2 log ≡ length log) where
    pub short : length out < length (wider log) → convert_of log out ≡ refused 71 out
    unfolding convert_of is_whole
    short l = rw (eq-eqb (whole_length 2 log) (length log) h, lt-ltb (length out) (length (wider log)) l)

    pub done : length (wider log) ≤ length out → convert_of log out ≡ wrote (wider log) out
    unfolding convert_of is_whole
    done l = rw (eq-eqb (whole_length 2 log) (length log) h, le-ltb (length out) (length (wider log)) l)

-- ---- the theorem

-- a body that fits two bytes fits four
fit_wider : (rs : List Stored) → AllFit (ShortBody 2) rs → AllFit (ShortBody 4) rs
fit_wider [] h = tt
fit_wider (r ∷ rs) h = let l : length r.body < 256 ^ 2 = h.0 in (omega arith, fit_wider rs h.1)

-- each record is two bytes longer
grown : (rs : List Stored) → length (log_of 4 rs) ≡ length (log_of 2 rs) + 2 * length rs
unfolding log_of
grown [] = refl
grown (r ∷ rs) =
    omega (arith, length-append (stored_bytes 4 r) (log_of 4 rs), length-append (stored_bytes 2 r) (log_of 2 rs), stored-length 4 r, stored-length 2 r, grown rs)

module _ (log out : List ℕ) (bytes : AreBytes log) (w : is_whole 2 log ≡ true) (room : length (wider log) ≤ length out) where
  new-read : read_log 4 (wider log) ≡ whole (records 2 log)
  unfolding wider
  new-read = read_back 4 (records 2 log) (fit_wider (records 2 log) (short_bodies 2 log bytes))

  new-length : length (wider log) ≡ length log + 2 * length (records 2 log)
  unfolding wider whole_length
  new-length = grown (records 2 log) ∙ ap (λ (n : ℕ). n + 2 * length (records 2 log)) (whole_length_lem 2 log w)

  rewritten : Alike log (wrote (wider log) out)
  rewritten = record { old = reads 2 log w; new = rw (take-front out (wider log) room) new-read; total = new-length }

pub reads-alike : ReadsAlike
unfolding convert_of
reads-alike log out bytes n = go (is_whole 2 log) (ltb (length out) (length (wider log))) refl refl
  where
    go : (a b : Bool) → is_whole 2 log ≡ a → ltb (length out) (length (wider log)) ≡ b → Alike log (convert_of log out)
    go true false p q = rw (p, q) (rewritten log out bytes p (ltb-false (length out) (length (wider log)) q))
    go true true p q = let none : ◌≡◌ {A = ℕ} 71 0 = rw (p, q) at n in let no : ⊥ = omega arith in absurd no
    go false b p q = let none : ◌≡◌ {A = ℕ} 70 0 = rw p at n in let no : ⊥ = omega arith in absurd no
