use Rattle.std.proofs.Common.{refl}
use Rattle.mf_decimal.proofs.Cutting.{cut_at_most, cut_near, sign_kept, sign_none}
use Rattle.mf_decimal.proofs.decimal.Decimal.cut.Goals as goal
use Rattle.mf_decimal.proofs.decimal.Decimal.cut.Goals.{then-self, else-self}

pub returns : goal.returns
returns c = record {
  scale = refl;
  at_most = cut_at_most c.args.self.now.coefficient c.ten_to.result _ c.ten_to.ensures.value;
  near = cut_near c.args.self.now.coefficient c.ten_to.result _ c.ten_to.ensures.value c.ten_to.ensures.some;
  sign = elim c.if-self.branch [
    | then-self w ↦ sign_kept c.if-self.result c.args.self.now.negative _ w.if-self.true w.result-is
    | else-self w ↦ sign_none c.if-self.result c.args.self.now.negative _ w.if-self.false w.result-is
  ];
}
