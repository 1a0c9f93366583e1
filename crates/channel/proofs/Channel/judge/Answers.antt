-- `Channel::judge` meets its contract: rules 12 to 23 refuse the frame, or a command, data or settings go on to the rules left.
-- Assumes nothing.
use Prim.Native.Nat.{ℕ}
use mathlib.Core.Path.{◌≡◌, sym, ap, ◌∙◌}
use mathlib.Core.List.{List, []}
use lib.ListN.{length}
use Rattle.frame.specs.declared.Header.{Header}
use Rattle.frame.specs.Limits.{slot_count}
use Rattle.frame.specs.Header.{header_of}
use Rattle.frame.specs.Frame.{framed}
use Rattle.rules.specs.declared.Met.{Met}
use Rattle.rules.specs.Rules.{first_broken}
use Rattle.rules.specs.Stages.{broken_of, viewed, head_rules}
use Rattle.rules.proofs.RuleLaws.{number-some, ok-zero}
use Rattle.channel.specs.declared.Channel.{Channel}
use Rattle.channel.specs.declared.Fed.{Fed}
use Rattle.channel.specs.Channel.{fed_with}
use Rattle.channel.specs.Steps.{judged_into, met_of, HasFrame, Passed, refused_with}
use Rattle.channel.proofs.Handed.{eight}
use Rattle.channel.proofs.JudgeLaws.{answers-head}
use Rattle.channel.proofs.Channel.judge.Goals as goal

-- a frame that rules 12 to 23 refuse, over plain values
refuses : (s : Channel) (h : Header) (m : Met) (w out : List ℕ) (done n : ℕ) (r : Fed) → HasFrame s w
    → length s.slots ≡ slot_count → h ≡ header_of w → m ≡ met_of s h → n ≡ first_broken head_rules (framed h []) (viewed m h []) → (n ≡ 0 → ⊥)
    → r ≡ refused_with s n → fed_with r w out ≡ judged_into out done s w
refuses s h m w out done n r p count h-is m-is n-is o r-is =
    rw r-is (sym (answers-head p count out done n (sym (rw (m-is, h-is) at n-is)) o))

pub returns-in-Err : goal.returns-in-Err
returns-in-Err c =
    let n-is = ap broken_of (sym c.in-Err.is) ∙ c.head_number.ensures in
    refuses _ _ _ _ _ _ _ _ c.requires (eight c.args.self _ c.well_formed.0) c.read_header-h.ensures c.met-m.ensures n-is (number-some c.in-Err.rule) c.refused.ensures

-- rules 12 to 23 let the frame pass
passed : (s : Channel) (h : Header) (m : Met) (w : List ℕ) (n : ℕ) → HasFrame s w → h ≡ header_of w → m ≡ met_of s h → n ≡ first_broken head_rules (framed h []) (viewed m h []) → n ≡ 0 → Passed s h m w
passed s h m w n frame h-is m-is n-is z = record { frame = frame; header = h-is; met = m-is; passes = sym n-is ∙ z }

pub command-requires : goal.command-requires
command-requires c = (c.if-h-eq1.true, passed _ _ _ _ _ c.requires c.read_header-h.ensures c.met-m.ensures c.head_number.ensures (ok-zero _ c.in_default.not-Err))

pub other-requires : goal.other-requires
other-requires c = (c.if-h-eq1.false, passed _ _ _ _ _ c.requires c.read_header-h.ensures c.met-m.ensures c.head_number.ensures (ok-zero _ c.in_default.not-Err))
