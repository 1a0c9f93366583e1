-- A log read through for a break: the bytes may be taken one by one or many at once, and where the reading ends tells how the log reads.
-- Assumes nothing.
use Rattle.std.proofs.Common.{◌≡◌, ℕ, zero, suc, ◌+◌, ◌-◌, ◌%◌, ◌^◌, ◌<◌, ◌≤◌, Bool, true, false, cond, ltb, leb, List, [], ◌∷◌, ◌++◌, length, take, drop, sym, refl, ap, ◌∙◌, append_assoc, add-zero, arith, length-append, length-drop, take-append-drop, length-take-le, drop-drop, ltb-false, ltb-true, le-ltb, lt-ltb, ne_eqb, le-leb, leb-false, leb-true}
use borrow.Author.Tests.{lt-leb}
use Rattle.logs.specs.Logs.{claimed, size, is_there, whole_length, is_whole, read_log}
use Rattle.logs.proofs.Walk.{there, not_there, by_record}
use Rattle.logs.proofs.Joined.{length_more, length_last}
use Rattle.logs.proofs.Pieces.{same_number}
use Rattle.log_compare.specs.Partial.{UnderWay, nothing, is_none, begun, takes, under_way}
use Rattle.log_compare.specs.Scan.{Scanned, reached, settled, reach_of, scan_of, scan_view}
use Rattle.log_compare.specs.Laws.{AnyCut, Finds}

pub any-cut : AnyCut
unfolding scan_of
any-cut s [] q = refl
any-cut s (b ∷ p) q = any-cut (settled s (b ∷ [])) p q

-- ---- many bytes at once

-- a record that is under way
record Goes (u : UnderWay) : Type 0 where
  goes : is_none u ≡ false

reached-on : (u : UnderWay) (start place : ℕ) → Goes u → reached u start place ≡ record { under = u; start = start; place = place }
unfolding reached
reached-on u start place g = rw g.goes

-- a byte that ends neither a head nor a body
module _ (u : UnderWay) (b : ℕ) (rest : List ℕ) (some : 0 < length rest) where
  record Split : Type 0 where
    goes : Goes (takes u (b ∷ []))
    both : takes u (b ∷ rest) ≡ takes (takes u (b ∷ [])) rest
    reach : reach_of u ≡ suc (reach_of (takes u (b ∷ [])))

  in_body : 0 < u.left → suc (length rest) ≤ u.left → Split
  unfolding takes reach_of is_none
  in_body l k =
      let on : 0 < u.left - 1 = omega arith in
      let e : u.left - suc (length rest) ≡ u.left - 1 - length rest = omega arith in
      let f : u.left ≡ suc (u.left - 1) = omega arith in
      record {
        goes = record { goes = rw (lt-ltb 0 u.left l, ne_eqb (u.left - 1) 0 (λ z. let no : ⊥ = omega arith in no)) };
        both = rw (lt-ltb 0 u.left l, lt-ltb 0 (u.left - 1) on, e);
        reach = rw (lt-ltb 0 u.left l, lt-ltb 0 (u.left - 1) on) f;
      }

  module _ (z : u.left ≡ 0) (k : suc (length rest) ≤ 6 - length u.head) where
    abbrev h : List ℕ
    h = u.head ++ b ∷ []

    h-length : length h ≡ suc (length u.head)
    h-length = length-append u.head (b ∷ []) ∙ omega arith

    h-held : takes u (b ∷ []) ≡ record { head = h; left = 0 }
    unfolding takes begun
    h-held = rw (le-ltb 0 u.left (omega arith), lt-leb 6 (length h) (omega (arith, h-length)))

    h-goes : is_none (record { head = h; left = 0 }) ≡ false
    unfolding is_none
    h-goes = ne_eqb (length h) 0 (λ e. let no : ⊥ = omega (arith, h-length) in no)

    h-both : takes u (b ∷ rest) ≡ takes (record { head = h; left = 0 }) rest
    unfolding takes
    h-both = rw (le-ltb 0 u.left (omega arith), append_assoc u.head (b ∷ []) rest)

    h_reach : reach_of u ≡ suc (reach_of (record { head = h; left = 0 }))
    unfolding reach_of
    h_reach = rw (le-ltb 0 u.left (omega arith)) (omega (arith, h-length))

    in_head : Split
    in_head = record { goes = record { goes = rw h-held h-goes }; both = rw h-held h-both; reach = rw h-held h_reach }

  split : suc (length rest) ≤ reach_of u → Split
  unfolding reach_of
  split k = go (ltb 0 u.left) refl k
    where
      go : (t : Bool) → ltb 0 u.left ≡ t → suc (length rest) ≤ cond t u.left (6 - length u.head) → Split
      go true e l = in_body (ltb-true 0 u.left e) l
      go false e l = in_head (omega (arith, ltb-false 0 u.left e)) l

-- the first byte, and then the rest
first_byte : (s : Scanned) (b : ℕ) (rest : List ℕ) (some : 0 < length rest) → Split s.under b rest some
    → settled s (b ∷ rest) ≡ settled (settled s (b ∷ [])) rest
unfolding settled
first_byte s b rest some p =
    let u : UnderWay = takes s.under (b ∷ []) in
    let e = reached-on u s.start ((s.place + 1) % 2 ^ 64) p.goes in
    let n : ((s.place + 1) % 2 ^ 64 + length rest) % 2 ^ 64 ≡ (s.place + suc (length rest)) % 2 ^ 64 = omega arith in
    rw (e, n, p.both)

under_way_lem : (s : Scanned) (bytes : List ℕ) → (settled s bytes).under ≡ takes s.under bytes
unfolding settled reached
under_way_lem s bytes = refl

pub at_once : (s : Scanned) (bytes : List ℕ) → 0 < length bytes → length bytes ≤ reach_of s.under → settled s bytes ≡ scan_of s bytes
unfolding scan_of
at_once s [] l k = let no : ⊥ = omega arith in absurd no
at_once s (b ∷ []) l k = refl
at_once s (b ∷ c ∷ rest) l k =
    let some : 0 < length (c ∷ rest) = omega arith in
    let p = split s.under b (c ∷ rest) some k in
    let t : Scanned = settled s (b ∷ []) in
    let r : reach_of t.under ≡ reach_of (takes s.under (b ∷ [])) = ap reach_of (under_way_lem s (b ∷ [])) in
    first_byte s b (c ∷ rest) some p ∙ at_once t (c ∷ rest) some (omega (arith, p.reach, r))

-- ---- where the reading of a log ends

-- between records, with n bytes taken
abbrev pub between : ℕ → Scanned
between n = record { under = nothing; start = n; place = n }

record Reads (log : List ℕ) : Type 0 where
  starts : (n : ℕ) → n + length log < 2 ^ 64 → (scan_of (between n) log).start ≡ n + whole_length 4 log

pub place_of : (s : Scanned) (log : List ℕ) → s.place + length log < 2 ^ 64 → (scan_of s log).place ≡ s.place + length log
unfolding scan_of settled reached
place_of s [] l = omega arith
place_of s (b ∷ log) l =
    let e : (s.place + 1) % 2 ^ 64 ≡ s.place + 1 = omega arith in
    place_of (settled s (b ∷ [])) log (omega (arith, e)) ∙ omega (arith, e)

-- a body of which c bytes are left
module _ (c : ℕ) where
  abbrev rest : UnderWay
  rest = record { head = []; left = c }

  module _ (some : 0 < c) where
    rest_goes : Goes rest
    unfolding is_none
    rest_goes = record { goes = rw (ne_eqb c 0 (λ e. let no : ⊥ = omega arith in no)) }

    rest_reach : reach_of rest ≡ c
    unfolding reach_of
    rest_reach = rw (lt-ltb 0 c some)

    rest-taken : (n p : ℕ) (body : List ℕ) → 0 < length body → length body ≤ c
        → scan_of (reached rest n p) body ≡ reached (record { head = []; left = c - length body }) n ((p + length body) % 2 ^ 64)
    unfolding settled takes
    rest-taken n p body l k =
        let t : Scanned = record { under = rest; start = n; place = p } in
        ap (λ (s : Scanned). scan_of s body) (reached-on rest n p rest_goes)
        ∙ sym (at_once t body l (omega (arith, rest_reach)))
        ∙ rw (lt-ltb 0 c some)

-- a record's head, whole
module _ (log : List ℕ) (n : ℕ) (l : n + length log < 2 ^ 64) (k : 6 ≤ length log) where
  abbrev head : List ℕ
  head = take 6 log

  head-length : length head ≡ 6
  head-length = length-take-le 6 log k

  head_claims : claimed 4 head ≡ claimed 4 log
  unfolding claimed
  head_claims = sym (same_number 4 0 head (drop 6 log) (omega (arith, head-length))) ∙ ap (claimed 4) (take-append-drop 6 log)

  head-taken : scan_of (between n) head ≡ reached (rest (claimed 4 log)) n (n + 6)
  unfolding settled takes begun reach_of
  head-taken =
      let p : (n + length head) % 2 ^ 64 ≡ n + 6 = omega (arith, head-length) in
      sym (at_once (between n) head (omega (arith, head-length)) (omega (arith, head-length)))
      ∙ rw (p, le-leb 6 (length head) (omega (arith, head-length)), head_claims)

  behind-head : scan_of (between n) log ≡ scan_of (reached (rest (claimed 4 log)) n (n + 6)) (drop 6 log)
  behind-head = ap (scan_of (between n)) (sym (take-append-drop 6 log)) ∙ any-cut (between n) head (drop 6 log) ∙ ap (λ (s : Scanned). scan_of s (drop 6 log)) head-taken

-- all of it, and not all of it
all-body : (c n p : ℕ) (body : List ℕ) → length body ≡ c → p + c < 2 ^ 64 → scan_of (reached (rest c) n p) body ≡ between (p + c)
unfolding scan_of reached is_none
all-body zero n p [] e l = rw (add-zero p)
all-body zero n p (b ∷ body) e l = let no : ⊥ = omega arith in absurd no
all-body (suc c) n p body e l =
    let q : (p + length body) % 2 ^ 64 ≡ p + suc c = omega arith in
    let z : suc c - length body ≡ 0 = omega arith in
    rest-taken (suc c) (omega arith) n p body (omega arith) (omega arith) ∙ rw (q, z)

start-on : (u : UnderWay) (n p : ℕ) → Goes u → (reached u n p).start ≡ n
start-on u n p g = ap (λ (s : Scanned). s.start) (reached-on u n p g)

some-body : (c n p : ℕ) (body : List ℕ) → length body < c → (scan_of (reached (rest c) n p) body).start ≡ n
unfolding scan_of
some-body c n p [] l = start-on (rest c) n p (rest_goes c (omega arith))
some-body c n p (b ∷ body) l =
    let k : 0 < c - length (b ∷ body) = omega arith in
    ap (λ (s : Scanned). s.start) (rest-taken c (omega arith) n p (b ∷ body) (omega arith) (omega arith))
    ∙ start-on (rest (c - length (b ∷ body))) n _ (rest_goes (c - length (b ∷ body)) k)

-- a head that is not all there
module _ (h : List ℕ) (l : length h < 6) where
  held-goes : 0 < length h → Goes (record { head = h; left = 0 })
  unfolding is_none
  held-goes some = record { goes = rw (ne_eqb (length h) 0 (λ e. let no : ⊥ = omega arith in no)) }

  held-taken : (n : ℕ) → 0 < length h → scan_of (between n) h ≡ reached (record { head = h; left = 0 }) n ((n + length h) % 2 ^ 64)
  unfolding settled takes begun reach_of
  held-taken n some = sym (at_once (between n) h some (omega arith)) ∙ rw (lt-leb 6 (length h) l)

some-head : (n : ℕ) (log : List ℕ) → length log < 6 → (scan_of (between n) log).start ≡ n
unfolding scan_of
some-head n [] l = refl
some-head n (b ∷ log) l =
    ap (λ (s : Scanned). s.start) (held-taken (b ∷ log) l n (omega arith))
    ∙ start-on (record { head = b ∷ log; left = 0 }) n _ (held-goes (b ∷ log) l (omega arith))

reads_more : (log : List ℕ) → is_there 4 log ≡ true → Reads (drop (size 4 log) log) → Reads log
reads_more log f r = record { starts = λ n l. on n l }
  where
    c : ℕ
    c = claimed 4 log

    body : List ℕ
    body = take c (drop 6 log)

    on : (n : ℕ) → n + length log < 2 ^ 64 → (scan_of (between n) log).start ≡ n + whole_length 4 log
    on n l =
        let k : 6 + c ≤ length log = there 4 log f in
        let d : length (drop 6 log) ≡ length log - 6 = length-drop 6 log in
        let head : Scanned = reached (rest c) n (n + 6) in
        let whole : scan_of head (drop 6 log) ≡ scan_of (between (n + 6 + c)) (drop (6 + c) log) =
        ap (scan_of head) (sym (take-append-drop c (drop 6 log))) ∙ any-cut head body (drop c (drop 6 log))
        ∙ ap (λ (s : Scanned). scan_of s (drop c (drop 6 log))) (all-body c n (n + 6) body (length-take-le c (drop 6 log) (omega arith)) (omega arith))
        ∙ ap (scan_of (between (n + 6 + c))) (drop-drop c 6 log) in
        ap (λ (s : Scanned). s.start) (behind-head log n l (omega arith) ∙ whole)
        ∙ r.starts (n + 6 + c) (omega (arith, length-drop (6 + c) log))
        ∙ omega (arith, length_more 4 log f)

reads-last : (log : List ℕ) → is_there 4 log ≡ false → Reads log
reads-last log f = record { starts = λ n l. on n l (leb 6 (length log)) refl }
  where
    on : (n : ℕ) → n + length log < 2 ^ 64 → (b : Bool) → leb 6 (length log) ≡ b → (scan_of (between n) log).start ≡ n + whole_length 4 log
    on n l true e =
        let k = leb-true 6 (length log) e in
        ap (λ (s : Scanned). s.start) (behind-head log n l k)
        ∙ some-body (claimed 4 log) n (n + 6) (drop 6 log) (omega (arith, not_there 4 log f, length-drop 6 log))
        ∙ omega (arith, length_last 4 log f)
    on n l false e = some-head n log (leb-false 6 (length log) e) ∙ omega (arith, length_last 4 log f)

pub where_it_ends : (log : List ℕ) → length log < 2 ^ 64 → (scan_of (between 0) log).start ≡ whole_length 4 log
where_it_ends log l = (by_record 4 Reads reads-last reads_more log).starts 0 (omega arith) ∙ omega arith

pub finds : Finds
unfolding read_log is_whole scan_view under_way
finds log l =
    let e : (scan_of (between 0) log).place ≡ length log = place_of (between 0) log (omega arith) ∙ omega arith in
    rw (where_it_ends log l, e)
