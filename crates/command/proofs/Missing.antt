-- In a command without `args` each lookup gives 6, and the count is 0: the check's answer then has no arguments.
-- Assumes nothing.
use Rattle.std.specs.Prelude.{Option, None, Some, Ok, Err, is_some}
use mathlib.Core.Path.{◌≡◌, refl, sym, ◌∙◌}
use mathlib.Core.Bool.{false, false≢true}
use mathlib.Core.List.{List, []}
use Prim.Native.Nat.{ℕ}
use native.Mathlib.Omega.{arith}
use Rattle.keys.specs.Keys.{among}
use Rattle.entries.specs.declared.Entry.{Entry}
use Rattle.entries.specs.Entries.{entries, contents, find}
use Rattle.entries.proofs.Walk.{among-find}
use Rattle.command_map.specs.CommandMap.{Checked, args_key, value_found, value_under, command_with}
use Rattle.command.specs.declared.LookupError.TheVariants.{Absent}
use Rattle.command.specs.Command.{checked, if_command, number_of}
use Rattle.command.specs.Lookup.{place_in, count_of, argument_at}
use Rattle.command.specs.Laws.{outer_keys, MissingArgs, MissingCount}
use Rattle.command.proofs.Cases.{by-checked}

module _ (s : List ℕ) (key : List ℕ) where
  -- what the claim says of an answer of the check
  pub record Missing (c : Checked) : Type 0 where
    pub holds : number_of c ≡ 0 → place_in s c key ≡ Err Absent
    pub counted : if_command c (λ start stop count first. count) (λ n. 0) ≡ 0

  no_value : (e : Option Entry) → is_some e ≡ false → value_found s e ≡ None
  no_value None h = refl
  no_value (Some e) h = absurd (false≢true (sym h))

  no_arguments : (es : List Entry) → among (contents s es) args_key ≡ false → (start stop : ℕ) → Missing (Ok (command_with start stop (value_under s args_key es)))
  unfolding value_under entries find
  no_arguments es h start stop = rw (no_value (find s args_key es) (sym (among-find s args_key es) ∙ h)) (record { holds = λ z. refl; counted = refl })

  absent : among (outer_keys s) args_key ≡ false → Missing (checked s)
  absent h = by-checked s Missing
      (record { holds = λ z. absurd (omega arith); counted = refl }) (record { holds = λ z. absurd (omega arith); counted = refl })
      (record { holds = λ z. absurd (omega arith); counted = refl })
      (λ n at e ok start stop x. no_arguments (entries s 7 n at) (rw e at h) start stop)

pub missing_args : MissingArgs
unfolding argument_at
missing_args s key h = (absent s key h).holds

pub missing_count : MissingCount
unfolding count_of
missing_count s h = (absent s [] h).counted
