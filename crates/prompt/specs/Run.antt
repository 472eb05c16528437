-- The seconds of a trace heard one after the other (02, M-110): the engine, what was refused, and all that has been given. A refusal ends it.
use Rattle.std.specs.Prelude.{List, [], ◌++◌, ℕ, zero, suc, ◌*◌, take, Ok, Err}
use Rattle.refusal.specs.Judging.{Judged}
use Rattle.house.specs.House.{speed_at, flags_at, zero_at}
use Rattle.live.specs.declared.Given.{Given}
use Rattle.prompt.specs.declared.Engine.{Engine}
use Rattle.prompt.specs.declared.Received.{Received}
use Rattle.prompt.specs.Prompt.{heard, ended}

pub record Run : Type 0 where
  pub judged : Judged
  pub engine : Engine
  pub bytes : List ℕ

abbrev pub received_at : List ℕ → ℕ → Received
received_at trace k = record { speed = speed_at trace k; flags = flags_at trace k; fourth = zero_at trace k }

-- what is given, as bytes of the row
abbrev pub bytes_of : Given → List ℕ
bytes_of g = take (2 * g.count) g.bytes

-- "After a refusal it gives nothing more"
abbrev pub go_on : Judged → Run → Received → Run
go_on (Ok _) r s = record { judged = (heard r.engine s).judged; engine = (heard r.engine s).engine; bytes = r.bytes ++ bytes_of (heard r.engine s).given }
go_on (Err refusal) r s = r

-- the first n seconds of a trace
unfoldable pub run_to : Engine → List ℕ → ℕ → Run
run_to e trace zero = record { judged = Ok tt; engine = e; bytes = [] }
run_to e trace (suc n) = let r = run_to e trace n in go_on r.judged r (received_at trace n)

-- and the end
abbrev pub end_of : Run → List ℕ
end_of r = r.bytes ++ bytes_of (ended r.engine).given
