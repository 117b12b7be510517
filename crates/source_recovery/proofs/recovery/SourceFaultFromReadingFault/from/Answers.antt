use Rattle.std.proofs.Common.{◌≡◌, ◌∙◌, ap, inr, sym, subst}
use Rattle.source_recovery.specs.ReadingFaults.{HasScanFault, IsReadingFaultOf}
use Rattle.source_recovery.specs.declared.batches.ReadingFault.TheVariants as reading
use Rattle.source_recovery.specs.declared.recovery.SourceFault.TheVariants as source
use Rattle.source_recovery.proofs.JudgedLemmas.{gave_all-IsSourceFaultOf, gave_all-IsListedSourceFaultOf}
use Rattle.source_recovery.proofs.recovery.SourceFaultFromReadingFault.from.Goals as goal

pub returns-in-Bytes : goal.returns-in-Bytes
returns-in-Bytes c = record {
  is = λ first now has.
      let scan : HasScanFault first now c.in-Bytes.fault = subst (IsReadingFaultOf first now) c.in-Bytes.is has in
      gave_all-IsSourceFaultOf first now scan.bytes _ scan.gave (c.scan_fault.ensures.fault scan.bytes scan.is);
  listed = λ first now has.
      let scan : HasScanFault first now c.in-Bytes.fault = subst (IsReadingFaultOf first now) c.in-Bytes.is has in
      gave_all-IsListedSourceFaultOf first now scan.bytes _ scan.gave (c.scan_fault.ensures.listed scan.bytes scan.is);
  failed = λ is. let other : reading.Bytes c.in-Bytes.fault ≡ reading.Failed = sym c.in-Bytes.is ∙ is in absurd (cc);
  only = λ is. let other : source.Log c.scan_fault.result ≡ source.Failed = is in absurd (cc);
  memory = λ is. inr (c.in-Bytes.is ∙ ap reading.Bytes (c.scan_fault.ensures.memory (cc)));
}
