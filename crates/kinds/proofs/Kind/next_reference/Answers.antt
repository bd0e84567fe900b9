use Rattle.std.proofs.Common.{arith}
use Rattle.kinds.proofs.Bits.{gap, lowest}
use Rattle.kinds.proofs.Kind.next_reference.Goals as goal

pub returns-then-skipped-from : goal.returns-then-skipped-from
returns-then-skipped-from c =
    let map = c.args.self.map in
    let from = c.args.from in
    record {
      within = omega arith;
      later = λ l. omega arith;
      is_set = λ l. lowest map from (omega arith);
      none_before = λ i l h. gap map from i l h;
    }

pub returns-else-skipped-from : goal.returns-else-skipped-from
returns-else-skipped-from c =
    record {
      within = omega arith;
      later = λ l. absurd (omega arith);
      is_set = λ l. absurd (omega arith);
      none_before = λ i l h. gap c.args.self.map c.args.from i l (omega arith);
    }
