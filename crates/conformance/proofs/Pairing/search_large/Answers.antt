-- `search_large` meets its contract: what the checks accept is what the search asks for.
use native.Mathlib.Omega.{arith}
use Rattle.conformance.specs.PairQueue.{input_of}
use Rattle.conformance.proofs.Trials.{pairs_few, ready, room}
use Rattle.conformance.proofs.Pairing.search_large.Goals as goal

pub overflow_mul-pairs : goal.overflow_mul-pairs
overflow_mul-pairs c = omega (arith, pairs_few (input_of c.args.self.now) c.args.word.now c.requires)

pub search-requires : goal.search-requires
search-requires c =
    record {
      ready = ready (input_of c.args.self.now) c.args.word.now c.requires _ (omega arith) c.if-pairs-le-MIDDLE_QUEUE.true;
      room = room (input_of c.args.self.now) c.args.word.now c.requires _ (omega arith);
    }

pub search-requires-2 : goal.search-requires-2
search-requires-2 c =
    record {
      ready =
          ready (input_of c.args.self.now) c.args.word.now c.requires _ (omega arith) (pairs_few (input_of c.args.self.now) c.args.word.now c.requires);
      room = room (input_of c.args.self.now) c.args.word.now c.requires _ (omega arith);
    }
