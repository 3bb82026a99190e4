-- The measure: the bytes left, then the state's rank, 1 between pieces and 0 in data.
use Rattle.std.proofs.Common.{◌+◌, ◌-◌, ◌*◌, length}
use Rattle.gfm_table.proofs.states.+row_break_row_data.Given as goal

abbrev pub decreases-row_break : goal.decreases-row_break
decreases-row_break l = 2 * (length l.text.now.bytes.now - l.st.at.index) + 1

abbrev pub decreases-row_data : goal.decreases-row_data
decreases-row_data l = 2 * (length l.text.now.bytes.now - l.st.at.index)
