use Rattle.std.proofs.Common.{rules, inl}
use Rattle.lr_outside.proofs.mem_sink.MemSinkSink.write.Goals as goal

-- a call that fails here is listed
pub returns-then-contains-clause-lacking : goal.returns-then-contains-clause-lacking
returns-then-contains-clause-lacking c = inl (search rules)
