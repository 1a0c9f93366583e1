-- How the check walks over the outer map once: what the private functions of this crate answer. No public promise cites these.
-- These are definitions: they assume nothing.
use Rattle.std.specs.Prelude.{ℕ, ◌≤◌, ◌≡◌, Option, None, Some, Ok, Err, Bool, true, false, cond, length}
use mathlib.Core.List.{List, foldl}
use Rattle.std.specs.Option.{option_or}
use Rattle.cbor.specs.declared.Item.{Item}
use Rattle.cbor.specs.Cbor.{if_map, repeat, pair, value}
use Rattle.keys.specs.Keys.{twice}
use Rattle.entries.specs.declared.Entry.{Entry}
use Rattle.double_keys.specs.declared.Keys.{Keys}
use Rattle.double_keys.specs.declared.Keys.TheVariants.{Single, Double, Others}
use Rattle.entries.specs.Entries.{entries, contents, has_key}
use Rattle.double_keys.specs.DoubleKeys.{keys_of}
use Rattle.double_keys.specs.Row.{kept}
use Rattle.command_map.specs.declared.Judged.{Judged}
use Rattle.command_map.specs.declared.Fields.{Fields}
use Rattle.command_map.specs.declared.Refusal.TheVariants.{NotCommand, DoubleKey}
use Rattle.command_map.specs.CommandMap.{Checked, name-key, args_key, redirect_key, is_name, is_map, answer, value_item, map_of}

-- before the first entry
abbrev pub none_judged : Judged
none_judged = record { name = None; args = None; double = false }

-- a `name` entry with the value x, the first if none is there
abbrev pub with_name : Judged → Option Item → Option Judged
with_name j x = cond (is_name x) (Some (record j { name = option_or j.name x })) None

-- an `args` entry with the value x, the first if none is there
abbrev pub with_keys : Judged → Option Item → Keys → Option Judged
with_keys j x Single = Some (record j { args = option_or j.args x })
with_keys j x Double = Some (record j { args = option_or j.args x; double = true })
with_keys j x Others = None

abbrev pub with_redirect : Judged → Option Item → Option Judged
with_redirect j x = cond (is_map x) (Some j) None

module _ (s : List ℕ) where
  abbrev pub with_args : Judged → Option Item → Option Judged
  with_args j x = if_map x (λ n at. with_keys j x (keys_of s (entries s 6 n at))) None

  -- an entry more; none once an entry was not allowed
  unfoldable pub judge : Judged → Entry → Option Judged
  judge j e =
      cond (has_key s name-key e) (with_name j (value_item s e))
      (cond (has_key s args_key e) (with_args j (value_item s e))
      (cond (has_key s redirect_key e) (with_redirect j (value_item s e)) None))

  abbrev pub judge_next : Option Judged → Entry → Option Judged
  judge_next None e = None
  judge_next (Some j) e = judge j e

  -- what the judgement of entries is
  abbrev pub judged : List Entry → Option Judged
  judged es = foldl judge_next (Some none_judged) es

  -- what the walk over n entries leaves: none where they do not end
  pub record WalkedTo (n at : ℕ) (starts stops : List ℕ) (r : Fields) : Type 0 where
    pub ends : Some r.end ≡ repeat n (pair s (value s 7)) at
    pub all : r.judged ≡ judged (entries s 7 n at)
    pub same : r.kept ≤ length starts → contents s (entries s 7 n at) ≡ kept s starts stops r.kept

  abbrev pub Walked : ℕ → ℕ → List ℕ → List ℕ → Option Fields → Type 0
  Walked n at starts stops None = None ≡ repeat n (pair s (value s 7)) at
  Walked n at starts stops (Some r) = WalkedTo n at starts stops r

-- the command that the judgement of all entries shows, but for keys that stand twice in the outer map
abbrev pub command_of : Option Judged → Checked
command_of None = Err NotCommand
command_of (Some j) = answer true j.name j.args j.double

-- a command in whose outer map a key stands twice
abbrev pub also_double : Bool → Checked → Checked
also_double t (Ok c) = cond t (Err DoubleKey) (Ok c)
also_double t (Err x) = Err x

-- the walk's judgement of entries, with the keys that stand twice, says what the command map says of them
abbrev pub JudgementHolds : List ℕ → Type 0
JudgementHolds s = (es : List Entry) → map_of s es ≡ also_double (twice (contents s es)) (command_of (judged s es))
