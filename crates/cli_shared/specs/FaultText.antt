-- The line that says why the program ends. A line ends with LF.
use Rattle.std.specs.Prelude.{ℕ, List, [], ◌++◌, codes}
use Rattle.lsn_space.specs.Number.{number_text}
use Rattle.lock_core.specs.declared.reason.Why.{Why}
use Rattle.lock_core.specs.declared.reason.Why.TheVariants as why
use Rattle.cli_shared.specs.declared.report.Detail.{Detail}
use Rattle.cli_shared.specs.declared.report.Detail.TheVariants.{Fine, NoMemory, Usage, Script, Read, Write, Disk, NotALog, BadSnapshot, BadBatch}
use Rattle.cli_shared.specs.declared.report.Detail.TheVariants.{BadRec, Unlawful, LogEnd, TxnEnd, Exists, BadStream, Gap, NoSuchLsn, StreamUnlawful}
use Rattle.cli_shared.specs.declared.report.Detail.TheVariants.{NoAccount}

abbrev pub usage_line : List ℕ
usage_line = codes "usage: aether new LOG | run LOG [--workers N] [--ring R] [--slots K] [--wait] | recover | dump "
    ++ codes "| demo LOG N SEED [--workers N] [--ring R] [--slots K] | cut LOG | upgrade LOG | ship FROM | follow LOG | asof LSN "
    ++ codes "| statement ACCOUNT\n"

-- the word for the test that a record failed
abbrev pub why_text : Why → List ℕ
why_text why.Genesis = codes "genesis"
why_text why.Account = codes "account"
why_text why.Ended = codes "ended"
why_text why.Legs = codes "legs"
why_text why.Pair = codes "pair"
why_text why.Prev = codes "prev"
why_text why.Stale = codes "stale"
why_text why.Balance = codes "balance"

abbrev pub fault_line : Detail → List ℕ
fault_line Fine = []
fault_line NoMemory = codes "aether: out of memory\n"
fault_line Usage = usage_line
fault_line (Script line) = codes "aether: line " ++ number_text line ++ codes " refused\n"
fault_line Read = codes "aether: read failed\n"
fault_line Write = codes "aether: write failed\n"
fault_line Disk = codes "aether: disk failed\n"
fault_line NotALog = codes "aether: not a log\n"
fault_line BadSnapshot = codes "aether: bad snapshot\n"
fault_line (BadBatch offset) = codes "aether: bad batch at byte " ++ number_text offset ++ codes "\n"
fault_line (BadRec lsn) = codes "aether: bad record at lsn " ++ number_text lsn ++ codes "\n"
fault_line (Unlawful lsn test) = codes "aether: unlawful record at lsn " ++ number_text lsn ++ (codes ": " ++ why_text test ++ codes "\n")
fault_line (LogEnd tail total) =
    codes "aether: log end: tail " ++ number_text tail ++ (codes ", total " ++ number_text total ++ codes "\n")
fault_line (TxnEnd first count) =
    codes "aether: transaction numbers end: first " ++ number_text first ++ (codes ", count " ++ number_text count ++ codes "\n")
fault_line Exists = codes "aether: log exists\n"
fault_line (BadStream offset) = codes "aether: bad stream at byte " ++ number_text offset ++ codes "\n"
fault_line (Gap have from) =
    codes "aether: stream from lsn " ++ number_text from ++ (codes ", log ends at " ++ number_text have ++ codes "\n")
fault_line (NoSuchLsn lsn) = codes "aether: no record boundary at lsn " ++ number_text lsn ++ codes "\n"
fault_line (StreamUnlawful lsn test) =
    codes "aether: unlawful stream record at lsn " ++ number_text lsn ++ (codes ": " ++ why_text test ++ codes "\n")
fault_line (NoAccount account) = codes "aether: no account " ++ number_text account ++ codes "\n"
