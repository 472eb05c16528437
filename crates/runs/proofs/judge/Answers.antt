-- `judge`: each return is one of the three turns of Runs.antt.
use mathlib.Core.Path.{◌≡◌}
use mathlib.Core.Bool.{true, false}
use native.Mathlib.Omega.{arith}
use Rattle.house.specs.House.{stop_at}
use Rattle.runs.specs.Runs.{takes}
use Rattle.runs.proofs.Runs.{turn-stop, turn-stays, turn-takes}
use Rattle.runs.proofs.judge.Goals as goal

pub returns-then-is_stop : goal.returns-then-is_stop
returns-then-is_stop c = turn-stop _ _ _ _ (cc) c.requires.start_there

pub returns-then-takes : goal.returns-then-takes
returns-then-takes c =
    let drives : stop_at c.args.trace.bytes.now c.args.start ≡ false = cc in
    let taken : takes c.args.trace.bytes.now c.args.row.now c.args.trace.seconds c.args.start c.run_end-end.result ≡ true = cc in
    turn-takes _ _ _ _ _ drives c.run_end-end.ensures.0 taken _ c.fill.ensures _ c.run_end.ensures.0 (omega arith) (omega arith)

pub returns : goal.returns
returns c =
    let drives : stop_at c.args.trace.bytes.now c.args.start ≡ false = cc in
    let stays : takes c.args.trace.bytes.now c.args.row.now c.args.trace.seconds c.args.start c.run_end-end.result ≡ false = cc in
    turn-stays _ _ _ _ _ drives c.run_end-end.ensures.0 stays (omega arith) (omega arith)
